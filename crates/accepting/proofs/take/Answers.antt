-- `accepting::take` meets its contract. Neither the map nor the entries are refused, since there is room for both.
-- Assumes nothing.
use mathlib.Core.Path.{ap}
use mathlib.Core.Bool.{false}
use native.Mathlib.Omega.{arith}
use Rattle.protocol.specs.Process.{on_delegate}
use Rattle.hosts.specs.declared.State.{State}
use Rattle.hosts.specs.declared.Done.{Done}
use Rattle.hosts.specs.declared.Processed.TheVariants.{Accepted}
use Rattle.hosts.specs.Memory.{memory}
use Rattle.accepting.proofs.Laws.{set_fits, replace_fits, does_taken}
use Rattle.accepting.proofs.take.Goals as goal

pub returns-in_default-clause-is : goal.returns-in_default-clause-is
returns-in_default-clause-is c =
    let a = c.args in
    let r = c.set in
    record {
      freed = ap (λ (x : Done). x.state.len) c.dropped.ensures;
      is = λ name_lens names counts places mail h l es C R.
          set_fits
          (memory a.map.now.lows.now a.map.now.owners.now a.index.now.keys.now a.index.now.slots.now a.values.now.lens.now a.values.now.bytes.now name_lens names counts places mail)
          a.k h C a.s.now a.lo a.hi a.ks.now a.ats.now a.ls.now a.m es R _ _
          c.in_default.ensures
          (memory r.new.lows r.new.owners a.index.now.keys.now a.index.now.slots.now a.values.now.lens.now a.values.now.bytes.now name_lens names counts places mail)
          c.dropped.result (on_delegate false h l a.lo a.hi es);
    }

pub returns-in_default-replace-clause-is : goal.returns-in_default-replace-clause-is
returns-in_default-replace-clause-is c =
    let a = c.args in
    record {
      freed = ap (λ (x : Done). x.state.len) c.dropped-in_default-replace.ensures;
      is = λ name_lens names counts places mail h l es C R.
          absurd
          (replace_fits
          (memory a.map.now.lows.now a.map.now.owners.now a.index.now.keys.now a.index.now.slots.now a.values.now.lens.now a.values.now.bytes.now name_lens names counts places mail)
          a.k h C a.s.now a.lo a.hi a.ks.now a.ats.now a.ls.now a.m es R _ _ _ _ _ c.in_default-replace.ensures);
    }

pub returns-clause-is : goal.returns-clause-is
returns-clause-is c =
    let a = c.args in
    record {
      freed = c.moved.ensures.0;
      is = λ name_lens names counts places mail h l es C R.
          does_taken
          (memory a.map.now.lows.now a.map.now.owners.now a.index.now.keys.now a.index.now.slots.now a.values.now.lens.now a.values.now.bytes.now name_lens names counts places mail)
          a.k h C a.s.now a.lo a.hi a.ks.now a.ats.now a.ls.now a.m es R _ _ _ _ _ _ _ _ c.in-Ok.ensures c.in-Ok-replace.ensures l _
          (ap (λ (x : State). record { state = x; outcome = Accepted }) (c.moved.ensures.1 (omega (arith, C.transfers_is, R.few))));
    }

-- The answer, from the parts' answers.
-- Assumes nothing.
use mathlib.Core.Path.{◌≡◌}
use mathlib.Core.Bool.{Bool, true, false, false≢true}
use mathlib.Core.List.{List}
use Prim.Native.Nat.{ℕ}
use Rattle.hosts.specs.declared.State.{State}
use Rattle.hosts.specs.Memory.{Memory}
use Rattle.hosts.specs.Keeps.{Keeps}
use Rattle.protocol.specs.State.{Host}
use Rattle.audits.specs.Answers.{Valid as ValidTable}
use Rattle.audits_names.specs.Answers.{Valid as ValidNames}
use Rattle.audits_map.specs.Answers.{Valid as ValidMap}
use Rattle.audits_post.specs.Answers.{Valid as ValidPost}
use Rattle.audits_mail.specs.Answers.{Valid as ValidMail}
use Rattle.audits_room.specs.Answers.{Valid as ValidRoom}
use Rattle.auditing.specs.Sendable.{Sendable}
use Rattle.auditing.specs.Answers.{Audited}
use Rattle.auditing.specs.Inner.{Agree, Agreeing}
use Rattle.auditing.proofs.Hosts.{host_of, made_core, made_sendable, core_mailed}

-- ---- the plain numbers

pub disagree : {k : State} → (Agree k → ⊥) → Agreeing k false
disagree h = record { yes = λ e. absurd (false≢true e); no = λ e. h }

-- ---- memory

module _ {m : Memory} {k : State} {room : List ℕ} where
  refuted : ((h : Host) → Keeps m k room h → Sendable h → ⊥) → Audited m k room false
  refuted f = record { yes = λ e. absurd (false≢true e); no = λ e. f }

  -- each part that memory does not keep refutes every host

  pub no_numbers : {r : Bool} → Agreeing k r → r ≡ false → Audited m k room false
  no_numbers A e =
      refuted (λ h K S. A.no e (record { sized = K.core.sized; few = K.core.says.few; own = K.core.says.own }))

  pub no_names : {r : Bool} → ValidNames m.name_lens m.names k.width k.peers r → r ≡ false → Audited m k room false
  no_names A e = refuted (λ h K S. A.no e K.core.N K.core.names_kept)

  pub no_map : {r : Bool} → ValidMap m.lows m.owners k.bounds k.hosts r → r ≡ false → Audited m k room false
  no_map A e = refuted (λ h K S. A.no e K.core.f K.core.map_kept K.core.says.owner_in)

  pub no_table : {r : Bool} → ValidTable m.keys m.slots m.lens m.values k.entries r → r ≡ false → Audited m k room false
  no_table A e = refuted (λ h K S. A.no e K.core.T K.core.table_kept)

  pub no_post : {r : Bool} → ValidPost m.counts m.places m.mail k.size k.peers r → r ≡ false → Audited m k room false
  no_post A e = refuted (λ h K S. A.no e K.core.P K.core.post_kept)

  pub no_mail : {r : Bool} → ValidMail m.name_lens m.names m.places m.mail k.width k.size r → r ≡ false → Audited m k room false
  no_mail A e =
      refuted (λ h K S.
      A.no e k.peers K.core.N K.core.names_kept m.counts K.core.P K.core.post_kept (core_mailed m k h K.core S))

  -- with all parts the host is the one that they make
  pub audited : {a b c d e f r : Bool} → Agreeing k a → a ≡ true → ValidNames m.name_lens m.names k.width k.peers b → b ≡ true
      → ValidMap m.lows m.owners k.bounds k.hosts c → c ≡ true → ValidTable m.keys m.slots m.lens m.values k.entries d → d ≡ true
      → ValidPost m.counts m.places m.mail k.size k.peers e → e ≡ true
      → ValidMail m.name_lens m.names m.places m.mail k.width k.size f → f ≡ true → ValidRoom m k room r → Audited m k room r
  audited A ta B tb C tc D td E te F tf R =
      let a = A.yes ta in
      let b = B.yes tb in
      let c = C.yes tc in
      let d = D.yes td in
      let e = E.yes te in
      let l = F.yes tf k.peers b.0 b.1 m.counts e.0 e.1 in
      record {
        yes = λ t.
            let o = R.yes t in
            let h : Host = host_of m k b.0 e.0 o.0 in
            let core = made_core m k b.0 c.0 d.0 e.0 a.sized a.few a.own b.1 c.1 c.2 d.1 e.1 l o.0 in (
              h,
              record { core = core; room_is = o.1 h core },
              made_sendable m k b.0 c.0 d.0 e.0 a.sized a.few a.own b.1 c.1 c.2 d.1 e.1 l o.0,
            );
        no = λ t h K S. R.no t h.room h K.core K.room_is;
      }

-- The message in the room is processed (document 01, section 5, row by row of its table). `fits` says whether the table has a place for the value
-- of a Set; it is asked of nothing else.
-- Assumes nothing.
use Rattle.std.specs.Prelude.{Bool, true, false, ◌||◌, not, List, [], ◌∷◌, ℕ, suc, ◌-◌, length, ltb, leb}
use Rattle.std.proofs.Math.Option.{Option, none, some}
use Rattle.limits.specs.Limits.{value_max, entries_limit, transfers_limit}
use Rattle.keys.specs.declared.Bound.{Bound}
use Rattle.keys.specs.Bound.{below}
use Rattle.format.specs.Format.{Entry}
use Rattle.message.specs.Message.{Address, Body, get, set, reply, redirect, shard, delegate}
use Rattle.decoding.specs.Decode.{same}
use Rattle.protocol.specs.Address.{among}
use Rattle.protocol.specs.Records.{Value, look, setting, in_range, outside, replacing}
use Rattle.protocol.specs.Owners.{owner_of, giving, whole}
use Rattle.protocol.specs.State.{Host, Letter, done}
use Rattle.protocol.specs.Delivery.{Step, Outcome, Request, got, stored, still, next, posted, packet, numbered, idle, stuck, replied, redirected, dropped, unnumbered, accepted, handed}

-- ---- what a step does with the message

-- the room is free, and that is all
abbrev pub free : Host → Host
free h = done h.owners h.records h.transfers h

abbrev pub discarded : Host → Outcome → Step
discarded h o = still (free h) o

-- the body is sent to a by a host whose room is free; nothing is done if there is no number for it
abbrev pub answering : Bool → Host → Address → Body → Outcome → Option Request → Step
answering true h a b o x = record { state = posted a b h; sends = packet (next h a) a b ∷ []; outcome = o; executed = x }
answering false h a b o x = still h unnumbered

-- ---- Get and Set

abbrev pub redirecting : Host → Letter → ℕ → Step
redirecting h l k = answering (numbered h l.from) (free h) l.from (redirect k (owner_of h.owners k)) redirected none

abbrev pub on_get : (mine : Bool) → Host → Letter → ℕ → Step
on_get true h l k =
    answering (numbered h l.from) (free h) l.from (reply k (look k h.records)) replied
    (some (record { from = l.from; number = l.number; act = got k (look k h.records) }))
on_get false h l k = redirecting h l k

-- a value that is longer than a table keeps
abbrev pub long : Option Value → Bool
long none = false
long (some v) = ltb value_max (length v)

-- If the reply can't be sent, the request isn't executed. A Set that finds the table full is dropped
abbrev pub keeping : (can fits : Bool) → Host → Letter → ℕ → Option Value → Step
keeping true true h l k v =
    answering true (done h.owners (setting k v h.records) h.transfers h) l.from (reply k v) replied
    (some (record { from = l.from; number = l.number; act = stored k v }))
keeping true false h l k v = discarded h dropped
keeping false fits h l k v = discarded h unnumbered

abbrev pub on_set : (tooLong mine fits : Bool) → Host → Letter → ℕ → Option Value → Step
on_set true mine fits h l k v = discarded h dropped
on_set false true fits h l k v = keeping (numbered h l.from) fits h l k v
on_set false false fits h l k v = redirecting h l k

-- ---- transfers

abbrev pub any_long : List Entry → Bool
any_long [] = false
any_long (e ∷ l) = ltb value_max (length e.value) || any_long l

-- a Delegate that no host would send, or that no host has sent, is dropped
abbrev pub unfit : Host → Letter → Bound → Bound → List Entry → Bool
unfit h l lo hi es = not (below lo hi) || (leb entries_limit (length es) || (any_long es || not (among l.from h.hosts)))

abbrev pub on_delegate : (unfit : Bool) → Host → Letter → Bound → Bound → List Entry → Step
on_delegate true h l lo hi es = discarded h dropped
on_delegate false h l lo hi es =
    still (done (giving lo hi h.me h.owners) (replacing lo hi es h.records) (suc h.transfers) h) accepted

-- anyone may ask for a Shard (change request C5); it is dropped if the recipient is me or no host, or the range is empty, not all mine, or has too
-- many entries for a transfer
abbrev pub refused : Host → Bound → Bound → Address → Bool
refused h lo hi a =
    same a h.me || (not (among a h.hosts) || (not (below lo hi) || (not (whole lo hi h.me h.owners)
    || leb entries_limit (length (in_range lo hi h.records)))))

-- the range and its entries go to the recipient; without a number for the Delegate only the count is raised
abbrev pub handing : (can : Bool) → Host → Bound → Bound → Address → Step
handing true h lo hi a =
    answering true (done (giving lo hi a h.owners) (outside lo hi h.records) (suc h.transfers) h) a
    (delegate lo hi (in_range lo hi h.records)) handed none
handing false h lo hi a = still (done h.owners h.records (suc h.transfers) h) unnumbered

abbrev pub on_shard : (refused : Bool) → Host → Bound → Bound → Address → Step
on_shard true h lo hi a = discarded h dropped
on_shard false h lo hi a = handing (numbered h a) h lo hi a

-- ---- the table of document 01. A Delegate or Shard stays while the count of transfers is not `few`, that is, at its limit

abbrev pub on_body : (few fits : Bool) → Host → Letter → Body → Step
on_body few fits h l (get k) = on_get (same (owner_of h.owners k) h.me) h l k
on_body few fits h l (set k v) = on_set (long v) (same (owner_of h.owners k) h.me) fits h l k v
on_body true fits h l (delegate lo hi es) = on_delegate (unfit h l lo hi es) h l lo hi es
on_body false fits h l (delegate lo hi es) = still h stuck
on_body true fits h l (shard lo hi a) = on_shard (refused h lo hi a) h lo hi a
on_body false fits h l (shard lo hi a) = still h stuck
on_body few fits h l (reply k v) = discarded h dropped
on_body few fits h l (redirect k a) = discarded h dropped

abbrev pub on_letter : Bool → Host → Option Letter → Step
on_letter fits h none = still h idle
on_letter fits h (some l) = on_body (ltb h.transfers (transfers_limit - 2)) fits h l l.body

abbrev pub process : Bool → Host → Step
process fits h = on_letter fits h h.room

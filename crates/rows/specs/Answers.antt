-- What processing a body answers.
-- Assumes nothing.
use Rattle.std.specs.Prelude.{◌≡◌, ◌⊎◌, List, ℕ, ◌-◌, length, ltb}
use Rattle.std.proofs.Math.Option.{none}
use Rattle.limits.specs.Limits.{transfers_limit}
use Rattle.message.specs.declared.BodyView.{BodyView}
use Rattle.message.specs.View.{body_of, BodyIn}
use Rattle.protocol.specs.State.{Host, Letter}
use Rattle.protocol.specs.Delivery.{Step}
use Rattle.protocol.specs.Process.{on_body}
use Rattle.hosts.specs.declared.State.{State}
use Rattle.hosts.specs.declared.Done.{Done}
use Rattle.hosts.specs.Memory.{Memory}
use Rattle.hosts.specs.Limits.{Needs, fits_body}
use Rattle.hosts.specs.Keeps.{Core, limits_of}
use Rattle.hosts.specs.Answers.{Heard, Does}

-- the definition's step for a body
abbrev pub step_for : Memory → (s : List ℕ) → BodyView → Host → Letter → Step
step_for m s b h l = on_body (ltb h.transfers (transfers_limit - 2)) (fits_body (length m.slots) h (body_of s b)) h l (body_of s b)

-- the message stays in the room and nothing has changed, or the room is free
abbrev pub Leaves : (m m' : Memory) → (k k' : State) → Host → Step → Type 0
Leaves m m' k k' h s = ((s.state ≡ h) × (m' ≡ m) × (k' ≡ k)) ⊎ ((s.state.room ≡ none) × (k'.len ≡ 0))

-- a body that stands in the datagram s was processed
pub record AfterBody (m : Memory) (k : State) (s : List ℕ) (b : BodyView) (r : Done) (m' : Memory) : Type 0 where
  pub is : (room : List ℕ) (h : Host) (l : Letter) → Core m k h → Heard m k l → BodyIn s b → Needs (limits_of m k room) h l (body_of s b)
      → Does m' r.state r.outcome (step_for m s b h l)
  pub leaves : (h : Host) (l : Letter) → Core m k h → Leaves m m' k r.state h (step_for m s b h l)

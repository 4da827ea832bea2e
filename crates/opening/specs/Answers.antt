-- What making the memory of delivery ready does.
-- Assumes nothing.
use Rattle.std.specs.Prelude.{◌≡◌, Bool, true, false, List, ℕ, ◌*◌, ◌≤◌, ◌<◌, length}
use Rattle.delivery.specs.Post.{nothing}
use Rattle.delivery.specs.Memory.{Keeps, capacity}

-- what is lent can serve: a datagram has bytes, and the mail has room for one in each place
pub record Shape (places mail size : ℕ) : Type 0 where
  pub wide : 0 < size
  pub fits_mail : places * size ≤ mail

-- nothing was sent or received, for as many peers as there are words, or what is lent does not serve and nothing has changed
pub record AfterStart (counts places mail : List ℕ) (size : ℕ) (r : Bool) (counts' places' : List ℕ) : Type 0 where
  pub ready : r ≡ true → (n : ℕ) → n * 3 ≤ length counts → Keeps counts' places' mail size n nothing
  pub unfit : r ≡ false → (counts' ≡ counts) × (places' ≡ places) × (Shape (capacity places) (length mail) size → ⊥)

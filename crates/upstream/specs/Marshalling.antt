-- Upstream's trait for what can be written, marshal_v, as its laws: over any type with a test, bytes and an equality. And what reading a whole
-- datagram promises, net_sht_v.
-- Assumes nothing.
use Rattle.std.specs.Prelude.{◌≡◌, Bool, true, false, List, ℕ, ◌-◌, ◌≤◌, length, take, drop}
use Rattle.message.specs.Message.{Datagram}
use Rattle.message.specs.Table.{written, Valid}

-- Marshalable: `Is` is is_marshalable, `bytes` is ghost_serialize, `Same` is view_equal. Upstream's law about prefixes does not ask that the two may
-- be written; over lists of any length it has to
pub record Marshalable (A : Type 0) (Is : A → Type 0) (bytes : A → List ℕ) (Same : A → A → Type 0) : Type 0 where
  -- _is_marshalable
  pub decided : (x : A) → (b : Bool) × (b ≡ true → Is x) × (b ≡ false → Is x → ⊥)
  -- lemma_view_equal_symmetric
  pub symmetric : (x y : A) → Same x y → Same y x
  -- lemma_serialization_is_not_a_prefix_of
  pub no_prefix : (x y : A) → Is x → Is y → (Same x y → ⊥) → length (bytes x) ≤ length (bytes y) → bytes x ≡ take (length (bytes x)) (bytes y) → ⊥
  -- lemma_same_views_serialize_the_same
  pub same_is : (x y : A) → Same x y → (Is x → Is y) × (Is y → Is x)
  pub same_bytes : (x y : A) → Same x y → bytes x ≡ bytes y
  -- lemma_serialize_injective
  pub injective : (x y : A) → Is x → Is y → bytes x ≡ bytes y → Same x y

-- deserialize, where it answers x and the place after it
pub record Deserialized (A : Type 0) (Is : A → Type 0) (bytes : A → List ℕ) (buffer : List ℕ) (start : ℕ) (x : A) (end : ℕ) : Type 0 where
  pub is : Is x
  pub order : start ≤ end
  pub within : end ≤ length buffer
  pub there : take (end - start) (drop start buffer) ≡ bytes x

-- sht_demarshall_data_method, where it answers the message d: the message may be written, and is the one that the bytes are
pub record Demarshalled (buffer : List ℕ) (d : Datagram) : Type 0 where
  pub is : Valid d
  pub there : buffer ≡ written d
  pub only : (e : Datagram) → Valid e → buffer ≡ written e → e ≡ d

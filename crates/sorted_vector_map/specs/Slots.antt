-- A pair whose value is lent, while its key is shared.
use Prim.Native.Nat.{ℕ, ◌+◌}
use base.Stored.{Coded, coded×, coded_via}
use base.Fml.{Lft, Fml, feq}
use prog.Memory.{size, align, up}
use denote.RattleType.{RattleType}
use denote.Memory.{lone}
use denote.RawPtr.{Ptr, coded_ptr, ◌+ₚ◌}
use denote.Sharing.{beside, said}
use denote.Struct.Lending.{lent_at}

-- the key, where the value lies, and what it was when it was lent
pub record LentPair (K V : Type 0) : Type 0 where
  pub key : K
  pub place : Ptr
  pub value : V

module _ {K V : Type 0} where
  abbrev pub lent_pair_code : Coded K → Coded V → Coded (LentPair K V)
  lent_pair_code k v = coded_via (coded× k (coded× coded_ptr v)) (λ s. (s.key, (s.place, s.value)))
      (λ s t same i. record { key = (same i).0; place = (same i).1.0; value = (same i).1.1 })

  -- the pair, as it was when its value was lent
  abbrev pub pair_of : LentPair K V → K × V
  pair_of s = (s.key, s.value)

  -- its value's place, and that value
  abbrev pub cell_of : LentPair K V → Ptr × V
  cell_of s = (s.place, s.value)

-- how far into a pair its key lies, and its value
abbrev pub key_offset : RattleType → ℕ
key_offset K = up (align (lone K.mir)) 0

abbrev pub value_offset : RattleType → RattleType → ℕ
value_offset K V = up (align (lone V.mir)) (key_offset K + size (lone K.mir))

-- what a `&` to the pair has: its key, and no more of its value than the place
abbrev pub sees_key : (K V : RattleType) → LentPair K.Denot V.Denot → Ptr → Lft → Fml
sees_key K V s p = beside (lent_at K (p +ₚ key_offset K) s.key) (said (feq Ptr s.place (p +ₚ value_offset K V)))

-- Keys and values at a function's two type parameters, under the names by which the walks go.
use Prim.Native.Nat.{ℕ, ◌+◌, ◌-◌, ◌%◌}
use native.Mathlib.Omega.{arith}
use native.Mathlib.Nat.{mod_self, max-eq_left}
use mathlib.Core.List.{[], ◌∷◌}
use mir.Syntax.{Args, Sym, Ty, a_type, ty_struct, tcons, tnil}
use mir.Val.{Val, vstruct, vcons, vnil}
use seplogic.Ra.Ura.{Ura}
use base.Logic.{ent, emp}
use types.Logic.{Logic, sem}
use mathlib.Core.Path.{◌≡◌, refl, ap, ◌∙◌}
use prog.Align.{Dv, dv→, dv_zero, align_size, align_pos}
use prog.Memory.{align, size, up}
use denote.RattleType.{RattleType}
use denote.Memory.{lone}
use denote.Param.{layouts, param}
use denote.Param.Laws.{Laws, param_laws}
use denote.Ref.{NamedLft}
use denote.Shadow.{makes_shadow}
use denote.Struct.Owning.{shape}
use denote.Struct.Struct.{Struct}
use denote.Struct.Tuple.{Tuple}
use Rattle.std.specs.Mem.{type_size}
use Rattle.sorted_vector_map.specs.Slots.{key_offset, value_offset}
use Rattle.sorted_vector_map.specs.contracts.lending.lent.Lent as Lent-type
use Rattle.sorted_vector_map.specs.contracts.lending.slot.Slot as Slot-type

pub record Two : Type 2 where
  pub key : RattleType
  pub key_laws : Laws key
  pub val : RattleType
  pub val_laws : Laws val

module _ (E : Two) where
  abbrev pub KR : RattleType
  KR = param 0 E.key

  abbrev pub VR : RattleType
  VR = param 1 E.val

  abbrev pub KD : Type 0
  KD = E.key.Denot

  abbrev pub VD : Type 0
  VD = E.val.Denot

  abbrev pub K-laws : Laws KR
  K-laws = param_laws 0 E.key E.key_laws

  abbrev pub V-laws : Laws VR
  V-laws = param_laws 1 E.val E.val_laws

  -- a pair, and what it is seen as while its value is lent
  abbrev pub PairR : RattleType
  PairR = Tuple (KR ∷ VR ∷ [])

  abbrev pub SlotR : RattleType
  SlotR = Slot-type.the_row KR VR

  abbrev pub to_key : ℕ
  to_key = key_offset KR

  abbrev pub to_value : ℕ
  to_value = value_offset KR VR

  abbrev pub two_args : Args
  two_args = layouts (a_type ∷ a_type ∷ []) (E.key, (E.val, tt))

-- the machine value of a loan, which takes no bytes
abbrev pub no_bytes : Val
no_bytes = vstruct (vcons (vstruct vnil) vnil)

module _ (a : NamedLft) (V : RattleType) {M : Type 1} {𝓤 : Ura M} (𝓛 : Logic 𝓤) where
  pub no_bytes_made : ent 𝓤 (emp 𝓤) (sem 𝓛 ((Struct (shape (Lent-type.the_type a V))).own_val (tt, tt) (no_bytes ∷ [])))
  no_bytes_made = makes_shadow 𝓛 ((Struct (shape (Lent-type.the_type a V))).own_val (tt, tt) (no_bytes ∷ [])) (λ vss. (tt, ((λ uss. (tt, tt)), tt))) ((vstruct vnil ∷ [], tt), (refl, ((tt, (refl, tt)), tt)))

-- what stands in memory for a number already aligned
up_same : (k e : ℕ) → Dv k e → up k e ≡ e
up_same k e d =
    let no_rest : e % k ≡ 0 = dv→ k e d in
    let none : (k - e % k) % k ≡ 0 = ap (λ (r : ℕ). (k - r) % k) no_rest ∙ ap (λ (r : ℕ). r % k) (omega arith) ∙ mod_self k in
    ap (λ (r : ℕ). e + r) none ∙ omega arith

-- a struct of one field lies as that field
one_field_align : (ν : Sym) (τ : Ty) → align (ty_struct ν (tcons τ tnil)) ≡ align τ
one_field_align ν τ = let some = align_pos τ in max-eq_left (omega arith)

one_field_size : (ν : Sym) (τ : Ty) → size (ty_struct ν (tcons τ tnil)) ≡ size τ
one_field_size ν τ =
    let starts : up (align τ) 0 ≡ 0 = up_same (align τ) 0 (dv_zero (align τ)) in
    let ends : up (align τ) 0 + size τ ≡ size τ = ap (λ (e : ℕ). e + size τ) starts ∙ omega arith in
    ap (λ (a : ℕ). up a (up (align τ) 0 + size τ)) (one_field_align ν τ) ∙ ap (up (align τ)) ends ∙ up_same (align τ) (size τ) (align_size τ)

pub slot_size : (E : Two) → type_size (SlotR E) ≡ type_size (PairR E)
slot_size E = let pair : Ty = lone (PairR E).mir in one_field_size [] (ty_struct [] (tcons pair tnil)) ∙ one_field_size [] pair

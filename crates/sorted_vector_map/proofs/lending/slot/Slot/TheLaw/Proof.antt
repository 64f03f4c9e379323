-- No slot is owned, so a borrow of one gives anything. Assumes `Logic`.
use mathlib.Core.List.{[], ◌∷◌}
use base.Fraction.{full_share}
use base.Logic.{sep, wand, never_e}
use base.Fml.{feq, fbor}
use types.Logic.{sem, lfts}
use types.Kit.{‵, raw, ◌⊛◌, later, ◌$◌, !, qed, keep, move, use1, use2, split, fsplit, fpick, await, updating, now, done}
use denote.RattleType.{RattleType}
use denote.Memory.{part_at, part_of}
use denote.RawPtr.{Ptr, block_ptr, ◌+ₚ◌}
use denote.Param.Laws.{Laws}
use denote.Sharing.{said}
use denote.SharingLaws.{said_shr_laws, beside_shr_laws}
use denote.Struct.Lending.{lent_at, lent_at_shr_laws}
use Rattle.sorted_vector_map.specs.Slots.{key_offset, value_offset, sees_key}
use Rattle.sorted_vector_map.specs.contracts.lending.slot.Slot as Slot-type
use Rattle.sorted_vector_map.proofs.lending.slot.Slot.TheLaw.Statement.{statement}

pub shares : (K V : RattleType) (LK : Laws K) (LV : Laws V) → statement K V LK LV
unfolding part_of
shares K V LK LV = record {
  shr_laws = λ s b o. beside_shr_laws (lent_at K (block_ptr b o +ₚ key_offset K) s.key) (said (feq Ptr s.place (block_ptr b o +ₚ value_offset K V)))
      (lent_at_shr_laws K LK.shr_laws (block_ptr b o +ₚ key_offset K) s.key) (said_shr_laws (feq Ptr s.place (block_ptr b o +ₚ value_offset K V)) tt);
  shares = λ M 𝓤 𝓛 s κ tokens b o inc spent.
      let slot = part_at (Slot-type.the_written K V) full_share s b o in
      let seen = sees_key K V s (block_ptr b o) κ in
      qed 𝓛 (‵ (fbor κ slot) ∷ raw (lfts 𝓛 tokens) ∷ []) {P = 𝓛.H.⇛ (sep 𝓤 (sem 𝓛 seen) (lfts 𝓛 tokens))} (
      updating ! $ use2 𝓛 (later (‵ slot ⊛ raw (wand 𝓤 (sem 𝓛 slot) (𝓛.H.⇛ (sep 𝓤 (𝓛.A.bor κ slot) (lfts 𝓛 tokens)))))) (𝓛.more.bor_acc_by κ tokens slot spent) $ await ! tt $ split ! $
      fpick ! (λ vs. fsplit ! $ move ! (1 ∷ []) $
      use1 𝓛 (‵ seen ⊛ raw (lfts 𝓛 tokens)) (never_e 𝓤 _) $ split ! $ keep ! (0 ∷ 1 ∷ []) $ now ! $ done !));
}

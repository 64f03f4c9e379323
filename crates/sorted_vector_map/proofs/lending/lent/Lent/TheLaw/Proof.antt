-- A `&` to a loan gives none of its values. Assumes `Logic`.
use denote.RattleType.{RattleType}
use denote.Ref.{NamedLft, MutRef}
use denote.Param.Laws.{Laws}
use denote.Param.Shared.{copy_shared}
use denote.SharingLaws.{nothing_shr_laws}
use denote.Struct.Laws.{field_copy}
use denote.Struct.Lending.{of_Lends, Lends-nothing}
use Rattle.std.specs.contracts.marker.PhantomData as marker
use Rattle.sorted_vector_map.specs.contracts.lending.lent.Lent as L
use Rattle.sorted_vector_map.proofs.lending.lent.Lent.TheLaw.Statement.{statement}

pub shares : (a : NamedLft) (V : RattleType) (laws : Laws V) → statement a V laws
shares a V laws =
    let lender : RattleType = MutRef a.mir a.lft V in
    of_Lends (L.struct a V) (L.the_codes V.Denot V.coded (marker.the_row lender).coded) (L.the_heap a.lft V) (L.the_lent a.lft V) (λ held p. nothing_shr_laws)
    (copy_shared (marker.the_field lender) (field_copy (marker.the_type lender) tt), tt)
    (λ M 𝓤 𝓛 held p. Lends-nothing 𝓛 (L.the_heap a.lft V held) (L.the_row a V).lives)

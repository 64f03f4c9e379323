-- `narrow` only says anew which cells may be taken. Assumes `Logic`.
use mathlib.Core.Path.{◌≡◌, refl, ap, sym, ◌∙◌}
use Prim.Native.Nat.{ℕ}
use mathlib.Core.List.{List, [], ◌∷◌, ◌++◌, append_assoc}
use mir.Syntax.{Args, Fn, a_type, named, w64}
use mir.MapTy.{inst_fn}
use mir.Val.{Val, vunit}
use base.Logic.{emp}
use base.Fml.{ftrue, flft}
use contract.Fact.{fact_i}
use contract.Lifetimes.{Lfts}
use contract.Monad.{fact}
use contract.Running.{tables}
use types.Kit.{‵, raw, ◌⊛◌, ◌$◌, ◌∵◌, !, qed, move, keep, drop, use0, split, join, group, rewrite, fsplit, fsplit3, fjoin, fjoin3, feq_i, suffices, done}
use types.Part.{agg}
use types.Run.{of_opd, unit_lit, and_then, no_more, returns, enter}
use types.ByLocal.{alloc_all, pass_all, free_all, look_at, get, sets}
use denote.Builtin.{usize}
use denote.Exit.{yes}
use denote.Plain.{uint_vals, uint_Tells}
use denote.RattleType.{RattleType, owns}
use denote.RawPtr.{Ptr}
use denote.Ref.{MutRef, mut_vals, mut_Tells}
use denote.Param.{layouts, param}
use denote.Signature.{plain, named_lft}
use denote.Steps.{nothing, opens, closes}
use denote.Triple.Clauses.{Ended}
use denote.Triple.Walked.{Stays, stay_dropped, stay_ref, walk_of, ends_at, Goes-dropped, Goes-ref}
use Rattle.std.proofs.Common.{take, take-append-drop}
use lib.ListN.{drop as drop_items}
use Rattle.std.proofs.raw_atomic.Walks.{proved}
use Rattle.sorted_vector_map.specs.declared.lending.lent.Lent.{Lent}
use Rattle.sorted_vector_map.specs.contracts.lending.lent.Lent as Lent-type
use Rattle.sorted_vector_map.specs.Loans.{lends_cells}
use Rattle.sorted_vector_map.specs.contracts.lending.lent.Lent.narrow.{ended, clauses}
use Rattle.sorted_vector_map.specs.contracts.lending.lent.Lent.narrow.Key.{name as #self}
use Rattle.sorted_vector_map.proofs.lending.lent.Lent.narrow.Statement as stated
use Rattle.sorted_vector_map.proofs.lending.lent.Lent.narrow.Code as code

-- a part of a list parts the whole in three
parted : {X : Type 0} (before l after : List X) (i n : ℕ)
    → before ++ (l ++ after) ≡ (before ++ take i l) ++ (take n (drop_items i l) ++ (drop_items n (drop_items i l) ++ after))
parted before l after i n =
    let rest = drop_items i l in
    ap (λ z. before ++ (z ++ after)) (sym (take-append-drop i l)) ∙ ap (λ z. before ++ z) (append_assoc (take i l) rest after) ∙ sym (append_assoc before (take i l) (rest ++ after))
    ∙ ap (λ z. (before ++ take i l) ++ z) (ap (λ z. z ++ after) (sym (take-append-drop n rest)) ∙ append_assoc (take n rest) (drop_items n rest) after)

module _ (V : RattleType) where
  abbrev one_arg : Args
  one_arg = layouts (a_type ∷ []) (V, tt)

  abbrev fn' : Fn
  fn' = inst_fn one_arg code.function

  abbrev end : Ended
  end = ended V

  abbrev Loan : Lfts 3 → RattleType
  Loan κs = Lent-type.the_row (named_lft 3 1 tt κs) (param 0 V)

  abbrev stayed : Stays end.signature.params end.kept
  stayed = (stay_ref (0 ∷ []) tt (plain Loan), (stay_dropped (plain (λ _. usize)) yes, (stay_dropped (plain (λ _. usize)) yes, tt)))

pub narrow_spec : {M : Type 1} → stated.statement M
narrow_spec 𝓤 𝓛 𝓜 𝓡 wired V LV =
    let c = clauses V 𝓛 𝓜.mem 𝓡.returns in let W = walk_of 𝓛 (end V) (stayed V) c in let 𝓣 = tables 𝓤 𝓛.H 𝓜 𝓡 𝓡.env in
    let number = Goes-dropped 𝓛 3 (plain (λ _. usize)) yes (λ κs x w. refl) in
    proved 𝓛 (end V) (stayed V) c 𝓜 𝓡 (Goes-ref 𝓛 3 0 tt (plain (Loan V)), (number, (number, tt)))
    (#self (one_arg V)) (fn' V) (code.unfolded 𝓤 𝓛.H 𝓜 𝓡 wired (V, tt))
    (λ κs. (mut_vals, (uint_vals w64, (uint_vals w64, tt)))) (λ κs. (mut_Tells (named 0) κs.0 (Loan V κs), (uint_Tells w64, (uint_Tells w64, tt))))
    (λ κs qs bounds a g are.
    let b = a.0.ref_ptr.0 in let o = a.0.ref_ptr.1 in let d : Lent V.Denot = a.0.now in let i : ℕ = a.1.0 in let n : ℕ = a.1.1.0 in
    let Cells : Type 0 = List (Ptr × V.Denot) in let rest : Cells = drop_items i d.cells in
    let new : Lent V.Denot = record { mark = d.mark; name = d.name; tie = d.tie; before = d.before ++ take i d.cells; cells = take n rest; after = drop_items n rest ++ d.after } in
    let y : W.Ghost = ((κs, qs, bounds, a, (mut_vals a.0, (uint_vals w64 i, (uint_vals w64 n, tt)))), g) in
    qed 𝓛 (((‵ (flft κs.0 qs.0) ⊛ ‵ (flft κs.1.0 qs.1.0) ⊛ ‵ (flft κs.1.1.0 qs.1.1.0) ⊛ ‵ ftrue) ⊛ ‵ (owns (MutRef (named 0) κs.0 (Loan V κs) ∷ usize ∷ usize ∷ []) a y.0.4)) ∷ raw ((c κs a).requires g) ∷ []) ∵
    keep ! (0 ∷ []) $ split ! $ enter ! _ _ _ _ _ $
    alloc_all ! (λ l. pass_all ! refl ((tt, tt), ((tt, record { fits = are.1.0.1 }), ((tt, record { fits = are.1.1.0.1 }), tt))) $
    -- [the tokens; what the parameters own]
    split ! $ move ! (2 ∷ []) $ fsplit ! $ fsplit3 ! $ drop ! $ move ! (0 ∷ 1 ∷ 3 ∷ []) $ opens ! tt (Loan V κs) {h = d} b o (λ vs.
    -- [the loan's bytes; what it owns; three parts of the borrow; the numbers; the other tokens]
    move ! (1 ∷ []) $ fsplit ! $ rewrite ! 1 (λ (cs : Cells). ‵ (lends_cells κs.1.0 (param 0 V) d.name cs)) (parted d.before d.cells d.after i n) refl $ fjoin ! $ move ! (1 ∷ 0 ∷ []) $
    closes ! tt (Loan V κs) new vs b o $
    sets ! (agg ! (and_then ! (get ! refl) (and_then ! (get ! refl) (no_more !)))) refl (tt, (record { fits = are.1.0.1 }, (record { fits = are.1.1.0.1 }, tt))) $
    sets ! (of_opd ! (unit_lit !)) refl (tt, tt) $ returns ! (look_at ! 0 refl) $ free_all ! refl $ keep ! (0 ∷ 1 ∷ 2 ∷ 4 ∷ []) $
    suffices ! _ (ends_at 𝓛 (end V) (stayed V) c y vunit tt (new, (tt, (tt, tt))) (tt, (tt, (tt, tt)))) $
    -- [what the loan is now; its borrow; its token; the other tokens]
    feq_i ! (List Val) (mut_vals a.0) (mut_vals a.0) refl $ fjoin3 ! $ nothing ! $ nothing ! $ fjoin ! $ nothing ! $ fjoin ! $ move ! (1 ∷ 0 ∷ []) $ fjoin ! $
    move ! (1 ∷ 2 ∷ []) $ join ! $ move ! (1 ∷ []) $ feq_i ! _ (vunit ∷ []) _ refl $ move ! (2 ∷ 1 ∷ 0 ∷ []) $ group ! 3 $
    use0 𝓛 (raw (fact 𝓤 (d.tie ≡ d.tie))) (fact_i 𝓤 (d.tie ≡ d.tie) (emp 𝓤) refl) $
    use0 𝓛 (raw (fact 𝓤 (take n rest ≡ take n rest))) (fact_i 𝓤 (take n rest ≡ take n rest) (emp 𝓤) refl) $ join ! $
    move ! (1 ∷ 0 ∷ []) $ done !)))

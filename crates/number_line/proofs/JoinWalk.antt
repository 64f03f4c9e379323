-- A join whose function is called at each piece as it is cut, from the least number on.
use Rattle.std.proofs.Common.{◌≡◌, List, [], ◌∷◌, ◌++◌, refl, ap, sym, ◌∙◌}
use Rattle.std.specs.Prelude.{ℤ, pos, ◌+ℤ◌, Bool, true, false}
use Rattle.std.specs.List.{fold}
use Rattle.number_line.specs.Merged.{put_behind, merged}
use Rattle.number_line.specs.Pieces.{Calls, with_answers, IsJoin}
use Rattle.number_line.proofs.PieceLemmas.{AreCutTo, with_piece, cut_first, cut_all}
use Rattle.number_line.proofs.MergedFirst.{joined_pieces}

module _ {F H X : Type 0} (step : F → H → X → F → Type 0) where
  calls_push : (f : F) (pieces : List ((ℤ × ℤ) × H)) (answers : List X) (g : F) (p : (ℤ × ℤ) × H) (x : X) (next : F) → Calls step f pieces answers g → step g p.1 x next
      → Calls step f (pieces ++ p ∷ []) (answers ++ x ∷ []) next
  calls_push f [] [] g p x next c s = (next, rw c s, refl)
  calls_push f [] (y ∷ answers) g p x next c s = absurd c
  calls_push f (q ∷ pieces) [] g p x next c s = absurd c
  calls_push f (q ∷ pieces) (y ∷ answers) g p x next c s = (c.0, c.1, calls_push c.0 pieces answers g p x next c.2 s)

  answers_push : (f : F) (pieces : List ((ℤ × ℤ) × H)) (answers : List X) (g : F) (p : (ℤ × ℤ) × H) (x : X) → Calls step f pieces answers g
      → with_answers (pieces ++ p ∷ []) (answers ++ x ∷ []) ≡ with_answers pieces answers ++ (p.0, x) ∷ []
  answers_push f [] [] g p x c = refl
  answers_push f [] (y ∷ answers) g p x c = absurd c
  answers_push f (q ∷ pieces) [] g p x c = absurd c
  answers_push f (q ∷ pieces) (y ∷ answers) g p x c = ap (λ t. (q.0, y) ∷ t) (answers_push c.0 pieces answers g p x c.2)

merged_push : {X : Type 0} (same : X → X → Bool) (list ps : List ((ℤ × ℤ) × X)) (p : (ℤ × ℤ) × X) → fold (put_behind same) list (ps ++ p ∷ []) ≡ put_behind same (fold (put_behind same) list ps) p
merged_push same list [] p = refl
merged_push same list (q ∷ ps) p = merged_push same (put_behind same list q) ps p

module _ {F H X : Type 0} (step : F → H → X → F → Type 0) (alike : H → H → Bool) (wanted : H → Bool) (holders : ℤ → H) (same : X → X → Bool) (lo hi : ℤ) where
  -- the function was called at the pieces below n, and the list is what its answers make
  pub record IsJoinedTo (n : ℤ) (f0 f : F) (list : List ((ℤ × ℤ) × X)) : Type 0 where
    pub pieces : List ((ℤ × ℤ) × H)
    pub cut : AreCutTo alike wanted holders lo hi n pieces
    pub answers : List X
    pub calls : Calls step f0 pieces answers f
    pub is : list ≡ merged same (with_answers pieces answers)

  pub joined_first : (f : F) → IsJoinedTo lo f f []
  joined_first f = record { pieces = []; cut = cut_first alike wanted holders lo hi; answers = []; calls = refl; is = refl }

  module _ (n next : ℤ) (p : (ℤ × ℤ) × H) (further : (pieces : List ((ℤ × ℤ) × H)) → AreCutTo alike wanted holders lo hi n pieces → AreCutTo alike wanted holders lo hi next (with_piece wanted pieces p)) where
    -- numbers that aren't wanted
    pub joined_past : (f0 f : F) (list : List ((ℤ × ℤ) × X)) → wanted p.1 ≡ false → IsJoinedTo n f0 f list → IsJoinedTo next f0 f list
    joined_past f0 f list unwanted j = record { pieces = j.pieces; cut = rw unwanted at (further j.pieces j.cut); answers = j.answers; calls = j.calls; is = j.is }

    -- a piece at which the function is called
    pub joined_call : (f0 f after : F) (list new : List ((ℤ × ℤ) × X)) (x : X) → wanted p.1 ≡ true → step f p.1 x after → new ≡ put_behind same list (p.0, x)
        → IsJoinedTo n f0 f list → IsJoinedTo next f0 after new
    joined_call f0 f after list new x is_wanted called put j = record {
      pieces = j.pieces ++ p ∷ [];
      cut = rw is_wanted at (further j.pieces j.cut);
      answers = j.answers ++ x ∷ [];
      calls = calls_push step f0 j.pieces j.answers f p x after j.calls called;
      is = put ∙ (ap (λ t. put_behind same t (p.0, x)) j.is
          ∙ (sym (merged_push same [] (with_answers j.pieces j.answers) (p.0, x))
          ∙ ap (λ t. merged same t) (sym (answers_push step f0 j.pieces j.answers f p x j.calls))));
    }

  pub joined_all : (n : ℤ) (f0 f : F) (list : List ((ℤ × ℤ) × X)) → n ≡ hi +ℤ pos 1 → IsJoinedTo n f0 f list → IsJoin step alike wanted holders same lo hi f0 list
  joined_all n f0 f list end j =
      let are = cut_all alike wanted holders lo hi j.pieces n end j.cut in
      record { pieces = j.pieces; are_pieces = are; joined = joined_pieces step same alike lo hi f0 j.pieces list j.answers f are.maximal j.calls j.is }

-- The stream is in order, and stays so.
use Rattle.std.proofs.Common.{◌≡◌, ℕ, zero, suc, false, List, [], Option, Some, None, All, length, sym, ap, ◌∙◌, subst, arith, true≢false}
use Rattle.std.specs.Cmp.{IsTotalOrder}
use Rattle.std.specs.declared.cmp.Ordering.{Ordering}
use Rattle.std.proofs.lemmas.Cmp.{tied_itself}
use Rattle.std.proofs.lemmas.List.Elements.{All-nil}
use Rattle.std.proofs.lemmas.List.Sorted.{length_permutation}
use Rattle.sorted_iter.specs.Orders.{InOrder, Rests}
use Rattle.sorted_iter.specs.declared.multiway.heads.InputHead.{InputHead}
use Rattle.sorted_iter.specs.MultiwaySteps.{multi_steps}
use Rattle.sorted_iter.specs.MultiwayRunLemmas.{HeadAscends, run-back, each-forward}

module _ {S A : Type 0} {cmp : A → A → Ordering} (o : IsTotalOrder cmp) (steps : S → Option A → S → Type 0) where
  spent : (n : ℕ) (hs ks : List (InputHead S A)) → hs ≡ [] → Rests (multi_steps cmp steps) n hs ks → ks ≡ []
  spent zero hs ks e r = sym r ∙ e
  spent (suc n) hs ks e r = spent n r.0 ks r.1.1 r.2

  pub multi-in_order : (hs : List (InputHead S A)) → All (HeadAscends cmp steps) hs → InOrder cmp (multi_steps cmp steps) hs
  multi-in_order hs a = record {
    ascends = λ xs t y. (run-back o steps xs false hs t y (λ e. absurd (true≢false (sym e))) a).2;
    stays_ended = λ xs t n u x v y r e.
        let none = spent n t u y.2.1 r in
        let p = e.1.1.3 in
        let l = length_permutation _ _ p in
        let z : length u ≡ 0 = ap length none in
        absurd (omega (arith, l, z));
  }

  pub multi-goes_on : (hs ks : List (InputHead S A)) (r : Option A) → All (HeadAscends cmp steps) hs → multi_steps cmp steps hs r ks
      → All (HeadAscends cmp steps) ks
  multi-goes_on hs ks None a e = subst (All (HeadAscends cmp steps)) (sym e.1) (All-nil (HeadAscends cmp steps))
  multi-goes_on hs ks (Some x) a e = (each-forward o steps e.0 x x hs ks e.1 (tied_itself o x) e.2 a).0

-- What a call of `take` says.
use Rattle.std.proofs.Common.{◌≡◌, ◌≤◌, inl, inr, List, [], ◌∷◌, ◌++◌, Option, Some, None, IfNone, refl, sym, ap, subst, ◌∙◌, true≢false, arith}
use Rattle.std.specs.Iterator.{Count, IsFinite, size, MakesProgress}
use Rattle.sorted_iter.specs.declared.ahead.Ahead.{Ahead}
use Rattle.sorted_iter.specs.declared.ahead.Head.TheVariants.{Unread, Held, Ended}
use Rattle.sorted_iter.specs.Lookahead.{pending, is_ended, ahead_can, ahead_left, Reads, Passes, MayFollow, Takes}

module _ {S A : Type 0} (can : S → Type 0) (left : S → Count) (steps : S → Option A → S → Type 0) where
  -- the source gave an item, where none was held
  pub takes-item : (s : Ahead S A) (t : S) (x : A) → s.head ≡ Unread → steps s.source (Some x) t → MakesProgress can left s.source (Some x) t → Takes can left steps s (Some x) (record { source = t; head = Unread })
  takes-item s t x e k g = record {
    passed = record { read = x ∷ []; calls = (ap is_ended e, t, k, inl (refl, refl)); items = rw e refl };
    head = refl;
    callable = λ _. g.keeps;
    finite = λ f. let f' = rw e at f in (g.on f').1;
    counted = λ f. let f' = rw e at f in let l = (g.on f').2 in rw e (omega (arith, l));
  }

  -- the source answered `None`
  pub takes-end : (s : Ahead S A) (t : S) → s.head ≡ Unread → steps s.source None t → Takes can left steps s None (record { source = t; head = Ended })
  takes-end s t e k = record {
    passed = record { read = []; calls = inr (ap is_ended e, refl, k); items = rw e refl };
    head = refl;
    callable = λ z. absurd (true≢false z);
    finite = λ _. tt;
    counted = λ _. omega arith;
  }

module _ {S A : Type 0} {can : S → Type 0} {left : S → Count} {steps : S → Option A → S → Type 0} {s t : Ahead S A} where
  -- after `None` nothing follows
  pub takes-none : {xs : List A} → Takes can left steps s None t → MayFollow t xs → xs ≡ []
  takes-none k m = m.is ∙ ap (λ l. pending t.head ++ l) (m.at_end (ap is_ended k.head)) ∙ ap (λ h. pending h ++ []) k.head

  -- an item that was taken and is put back wasn't passed
  pub takes-put_back : {u : Ahead S A} {x : A} → Takes can left steps s (Some x) t → u ≡ record t { head = Held x } → Passes steps s [] u
  takes-put_back {u} {x} k e = subst (Passes steps s []) (sym e) (record {
    read = k.passed.read;
    calls = subst (λ h. Reads steps (is_ended s.head) s.source k.passed.read (is_ended h) t.source) k.head k.passed.calls;
    items = k.passed.items ∙ ap (λ h. x ∷ pending h) k.head;
  })

  -- and it may come again
  pub takes-held : {u : Ahead S A} {x : A} → Takes can left steps s (Some x) t → u ≡ record t { head = Held x }
      → ahead_can can u × (IsFinite (ahead_left left s) → IsFinite (ahead_left left u) × (size (ahead_left left u) ≤ size (ahead_left left s)))
  takes-held {u} {x} k e = subst (λ v. ahead_can can v × (IsFinite (ahead_left left s) → IsFinite (ahead_left left v) × (size (ahead_left left v) ≤ size (ahead_left left s)))) (sym e) (
    (λ _. k.callable (ap is_ended k.head)),
    λ f. let fin = rw k.head at (k.finite f) in let less = rw k.head at (k.counted f) in (fin, less),
  )

  -- where it answered `None` nothing follows
  pub takes-ended : (r : Option A) → Takes can left steps s r t → IfNone r ((xs : List A) → MayFollow t xs → xs ≡ [])
  takes-ended None k = λ xs m. takes-none k m
  takes-ended (Some x) k = tt

  -- an item that was taken, put back and taken again
  pub takes-again : {x : A} → Takes can left steps s (Some x) t → Takes can left steps (record t { head = Held x }) (Some x) t
  takes-again {x} k = record {
    passed = record { read = []; calls = inl (sym (ap is_ended k.head), refl); items = sym (ap (λ h. x ∷ pending h) k.head) };
    head = k.head;
    callable = k.callable;
    finite = λ f. rw k.head f;
    counted = λ f. rw k.head (omega arith);
  }

-- What was passed of a source, and what may follow.
use Rattle.std.proofs.Common.{◌≡◌, inl, inr, Bool, true, false, List, [], ◌∷◌, ◌++◌, Option, None, refl, sym, ap, ap₂, subst, ◌∙◌, append_assoc, append-nil, true≢false}
use Rattle.std.specs.Iterator.{DrainsIf, AlwaysYields}
use Rattle.sorted_iter.specs.declared.ahead.Ahead.{Ahead}
use Rattle.sorted_iter.specs.Lookahead.{pending, is_ended, Reads, MayFollow, WillGive, Passes}

module _ {S A : Type 0} (steps : S → Option A → S → Type 0) where
  -- once ended there is no call
  pub reads-ended : (xs : List A) (a b : Bool) (s t : S) → a ≡ true → Reads steps a s xs b t → (xs ≡ []) × (b ≡ true) × (s ≡ t)
  reads-ended [] a b s t h (inl e) = (refl, sym e.0 ∙ h, e.1)
  reads-ended [] a b s t h (inr e) = absurd (true≢false (sym h ∙ e.0))
  reads-ended (x ∷ xs) a b s t h e = absurd (true≢false (sym h ∙ e.0))

  pub reads-append : (xs : List A) (a b c : Bool) (s t u : S) (ys : List A) → Reads steps a s xs b t → Reads steps b t ys c u
      → Reads steps a s (xs ++ ys) c u
  reads-append [] a b c s t u ys (inl e) k = subst (λ z. Reads steps z s ys c u) (sym e.0) (subst (λ z. Reads steps b z ys c u) (sym e.1) k)
  reads-append [] a b c s t u ys (inr e) k =
      let z = reads-ended ys b c t u e.1 k in
      subst (λ l. Reads steps a s l c u) (sym z.0) (inr (e.0, z.1, subst (λ v. steps s None v) z.2 e.2))
  reads-append (x ∷ xs) a b c s t u ys h k = (h.0, h.1, h.2, reads-append xs false b c h.1 t u ys h.3 k)

  pub reads-drains : (xs : List A) (a b : Bool) (s t : S) → a ≡ false → Reads steps a s xs b t → DrainsIf steps (b ≡ true) s xs
  reads-drains [] a b s t h (inl e) = (s, refl, λ z. absurd (true≢false (sym z ∙ sym e.0 ∙ h)))
  reads-drains [] a b s t h (inr e) = (s, refl, λ _. (t, e.2))
  reads-drains (x ∷ xs) a b s t h e = let m = reads-drains xs false b e.1 t refl e.3 in (m.0, (e.1, e.2, m.1), m.2)

  -- where zs are all the items to come, xs are the front of them
  pub reads-always : (xs : List A) (a b : Bool) (s t : S) (zs : List A) → a ≡ false → AlwaysYields steps (λ x. x) s zs
      → Reads steps a s xs b t
      → (rest : List A) × (zs ≡ xs ++ rest) × (b ≡ true → rest ≡ []) × (b ≡ false → AlwaysYields steps (λ x. x) t rest)
  reads-always [] a b s t zs h k (inl e) = (
    zs,
    refl,
    (λ z. absurd (true≢false (sym z ∙ sym e.0 ∙ h))),
    λ _. subst
        (λ v. AlwaysYields steps (λ x. x) v zs) e.1 k,
  )
  reads-always [] a b s t [] h k (inr e) = ([], refl, (λ _. refl), λ z. absurd (true≢false (sym e.1 ∙ z)))
  reads-always [] a b s t (z ∷ zs) h k (inr e) = absurd (k.0 t e.2)
  reads-always (x ∷ xs) a b s t [] h k e = absurd (k x e.1 e.2)
  reads-always (x ∷ xs) a b s t (z ∷ zs) h k e =
      let one = k.1 x e.1 e.2 in
      let m = reads-always xs false b e.1 t zs refl one.1 e.3 in
      (m.0, ap₂ (λ v l. v ∷ l) (sym one.0) m.1, m.2, m.3)

-- the held item may be all that follows
pub held-follows : {S A : Type 0} (h : Ahead S A) → MayFollow h (pending h.head)
held-follows h = record { rest = []; is = sym (append-nil (pending h.head)); at_end = λ _. refl }

module _ {S A : Type 0} {steps : S → Option A → S → Type 0} where
  pub passes-none : (s : Ahead S A) → Passes steps s [] s
  passes-none s = record { read = []; calls = inl (refl, refl); items = append-nil (pending s.head) }

  pub passes-append : {s t u : Ahead S A} {us vs : List A} → Passes steps s us t → Passes steps t vs u → Passes steps s (us ++ vs) u
  passes-append {s} {t} {u} {us} {vs} a b = record {
    read = a.read ++ b.read;
    calls = reads-append steps a.read (is_ended s.head) (is_ended t.head) (is_ended u.head) s.source t.source u.source b.read a.calls
        b.calls;
    items = sym (append_assoc (pending s.head) a.read b.read) ∙ ap (λ l. l ++ b.read) a.items ∙ append_assoc us (pending t.head) b.read ∙ ap
        (λ l. us ++ l) b.items ∙ sym (append_assoc us vs (pending u.head));
  }

  -- what may follow t, behind what was passed, may follow s
  pub passes-follow : {s t : Ahead S A} {us xs : List A} → Passes steps s us t → MayFollow t xs → MayFollow s (us ++ xs)
  passes-follow {s} {t} {us} {xs} p m = record {
    rest = p.read ++ m.rest;
    is = ap (λ l. us ++ l) m.is ∙ sym (append_assoc us (pending t.head) m.rest) ∙ ap (λ l. l ++ m.rest) (sym p.items) ∙ append_assoc
        (pending s.head) p.read m.rest;
    at_end = λ e. let z = reads-ended steps p.read (is_ended s.head) (is_ended t.head) s.source t.source e p.calls
        in ap₂ (λ k l. k ++ l) z.0 (m.at_end z.1);
  }

  pub will-follow : {h : Ahead S A} {xs : List A} → WillGive steps h xs → MayFollow h xs
  will-follow w = record { rest = w.rest; is = w.is; at_end = w.at_end }

  -- what was passed is the front of what the source will give
  pub passes-will : {s t : Ahead S A} {us xs : List A} → Passes steps s us t → WillGive steps s xs
      → (ys : List A) × (xs ≡ us ++ ys) × WillGive steps t ys
  passes-will {s} {t} {us} {xs} p w = go (is_ended s.head) refl
    where
      go : (b : Bool) → is_ended s.head ≡ b → (ys : List A) × (xs ≡ us ++ ys) × WillGive steps t ys
      go true e =
          let z = reads-ended steps p.read (is_ended s.head) (is_ended t.head) s.source t.source e p.calls in (
            pending t.head,
            w.is ∙ ap (λ l. pending s.head ++ l) (w.at_end e ∙ sym z.0) ∙ p.items,
            record { rest = []; is = sym (append-nil (pending t.head)); at_end = λ _. refl; runs = λ f. absurd (true≢false (sym z.1 ∙ f)) },
          )
      go false e =
          let m = reads-always steps p.read (is_ended s.head) (is_ended t.head) s.source t.source w.rest e (w.runs e) p.calls in (
            pending t.head ++ m.0,
            w.is ∙ ap (λ l. pending s.head ++ l) m.1 ∙ sym (append_assoc (pending s.head) p.read m.0) ∙ ap
                (λ l. l ++ m.0) p.items ∙ append_assoc us (pending t.head) m.0,
            record { rest = m.0; is = refl; at_end = m.2; runs = m.3 },
          )

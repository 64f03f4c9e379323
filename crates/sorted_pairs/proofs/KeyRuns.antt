-- What the stream of keys gives, and its copies.
use Rattle.std.proofs.Common.{◌≡◌, ℕ, suc, zero, true, List, [], ◌∷◌, Option, refl, sym, ap, subst, ◌∙◌}
use Rattle.std.specs.Iterator.{Count, Yields, DrainsIf, AlwaysYields}
use Rattle.std.specs.Iterator.Runs.{SomeRun, EachRunFrom}
use Rattle.std.proofs.iter.runs.Made.{run, took}
use Rattle.ordered_lists.specs.Joins.{keys}
use Rattle.sorted_iter.specs.Copies.{GoesAlike}
use Rattle.sorted_iter.specs.Orders.{GivesList, Rests, StaysEnded}
use Rattle.sorted_pairs.specs.declared.keys.Keys.{Keys}
use Rattle.sorted_pairs.specs.KeyStreams.{keys_source, keys_steps}

module _ {S K V : Type 0} (steps : S → Option (K × V) → S → Type 0) where
  -- behind the keys that came stand pairs of the source
  behind : (ks : List K) (s t : Keys S) → Yields (keys_steps steps) s ks t → (ps : List (K × V)) × Yields steps (keys_source s) ps (keys_source t) × (ks ≡ keys ps)
  behind [] s t e = ([], ap (λ k. keys_source k) e, refl)
  behind (k ∷ ks) s t e = let m = behind ks e.0 t e.2 in ((k, e.1.0) ∷ m.0, (keys_source e.0, e.1.1, m.1), ap (λ l. k ∷ l) m.2)

  -- and the other way round
  before : (ps : List (K × V)) (s t : S) → Yields steps s ps t → Yields (keys_steps steps) (record { source = s }) (keys ps) (record { source = t })
  before [] s t e = ap (λ z. record { source = z }) e
  before (p ∷ ps) s t e = (record { source = e.0 }, (p.1, e.1), before ps e.0 t e.2)

  keyed-always : (ps : List (K × V)) (s : Keys S) → AlwaysYields steps (λ x. x) (keys_source s) ps → AlwaysYields (keys_steps steps) (λ k. k) s (keys ps)
  keyed-always [] s h = λ k j e. h (k, e.0) (keys_source j) e.1
  keyed-always (p ∷ ps) s h = ((λ j e. h.0 (keys_source j) e), λ k j e. let m = h.1 (k, e.0) (keys_source j) e.1 in (ap (λ q. q.0) m.0, keyed-always ps j m.1))

  module _ (s : Keys S) (x : S) (same : keys_source s ≡ x) where
    pub keyed-runs : EachRunFrom (keys_steps steps) s (λ p. SomeRun steps x (λ q. (p.items ≡ keys q.items) × (p.whole ≡ q.whole)))
    keyed-runs p on at =
        let d = took p in
        let m = behind p.items p.from d.0 d.1 in
        let ran : DrainsIf steps (p.whole ≡ true) x m.0 = subst (λ k. DrainsIf steps (p.whole ≡ true) k m.0) (ap (λ k. keys_source k) at ∙ same) (keys_source d.0, m.1, λ w. (keys_source (d.2 w).0, (d.2 w).1)) in
        (run steps x m.0 p.whole ran, refl, (m.2, refl))

    pub keyed-lists : (ps : List (K × V)) → GivesList steps x ps → GivesList (keys_steps steps) s (keys ps)
    keyed-lists ps h = record { runs = keyed-always ps s (subst (λ k. AlwaysYields steps (λ z. z) k ps) (sym same) h.runs) }

  in_rests : (n : ℕ) (s t : Keys S) → Rests (keys_steps steps) n s t → Rests steps n (keys_source s) (keys_source t)
  in_rests zero s t e = ap (λ k. keys_source k) e
  in_rests (suc n) s t e = (keys_source e.0, e.1, in_rests n e.0 t e.2)

  out_rests : (n : ℕ) (s t : S) → Rests steps n s t → Rests (keys_steps steps) n (record { source = s }) (record { source = t })
  out_rests zero s t e = ap (λ z. record { source = z }) e
  out_rests (suc n) s t e = (record { source = e.0 }, e.1, out_rests n e.0 t e.2)

  -- the keys of a source that gives what another gives
  pub keyed-alike : (can : S → Type 0) (left : S → Count) (s t : Keys S) → GoesAlike can left steps (keys_source s) (keys_source t) → GoesAlike (λ k. can (keys_source k)) (λ k. left (keys_source k)) (keys_steps steps) s t
  keyed-alike can left s t h = record {
    callable = h.callable;
    finite = h.finite;
    ends = λ z. record {
      ended = λ ks a n b k c e f g.
          let inside : StaysEnded steps (keys_source s) = record {
            ended = λ ps p m q x r i j l. z.ended (keys ps) (record { source = p }) m (record { source = q }) x.0 (record { source = r }) (record { source = i.0 }, before ps (keys_source s) i.0 i.1, i.2) (out_rests m p q j) (x.1, l);
          } in
          let m = behind ks t e.0 e.1 in
          (h.ends inside).ended m.0 (keys_source a) n (keys_source b) (k, g.0) (keys_source c) (keys_source e.0, m.1, e.2) (in_rests n a b f) g.1;
    };
    same = λ ks w d.
        let m = behind ks t d.0 d.1 in
        let r = h.same m.0 w (keys_source d.0, m.1, λ e. (keys_source (d.2 e).0, (d.2 e).1)) in
        (record { source = r.0 }, subst (λ l. Yields (keys_steps steps) s l (record { source = r.0 })) (sym m.2) (before m.0 (keys_source s) r.0 r.1), λ e. (record { source = (r.2 e).0 }, (r.2 e).1));
  }

-- What a stored closure was called on, and what pairs become by its answers.
use Rattle.std.specs.Prelude.{◌≡◌, List, [], ◌∷◌, ◌++◌, map, Option, Some, None, ⊤}
use Rattle.std.specs.Fn.{Mut, Called, Takes}
use Rattle.std.specs.Iterator.{CallableAtEachTurn}

-- f may be called on the value of each pair that may come from s, in each state that the calls before leave it in
abbrev pub MayBeCalled : {S K V R F : Type 0} → (S → Option (K × V) → S → Type 0) → Mut F (V × Unit {0}) R → S → F → Type 0
MayBeCalled {R = R} steps g s f = CallableAtEachTurn steps (λ p x q. (r : R) × Called g p (x.1, tt) r q) (λ p x. Takes g p (x.1, tt)) s f

-- calls on vs, in order, answered rs and took the closure from f to h
abbrev pub CallsAlong : {V R F : Type 0} → Mut F (V × Unit {0}) R → F → List V → List R → F → Type 0
CallsAlong g f [] [] h = f ≡ h
CallsAlong g f [] (r ∷ rs) h = ⊥
CallsAlong g f (v ∷ vs) [] h = ⊥
CallsAlong {F = F} g f (v ∷ vs) (r ∷ rs) h = (e : F) × Called g f (v, tt) r e × CallsAlong g e vs rs h

-- the values of pairs
abbrev pub values : {K V : Type 0} → List (K × V) → List V
values ps = map (λ p. p.1) ps

-- the pairs ps, with the answers ws in place of their values
abbrev pub revalued : {K V W : Type 0} → List (K × V) → List W → List (K × W)
revalued [] ws = []
revalued (p ∷ ps) [] = []
revalued (p ∷ ps) (w ∷ ws) = (p.0, w) ∷ revalued ps ws

-- the same, without the pairs for which the answer is `None`
abbrev pub kept : {K V W : Type 0} → List (K × V) → List (Option W) → List (K × W)
kept [] rs = []
kept (p ∷ ps) [] = []
kept (p ∷ ps) (None ∷ rs) = kept ps rs
kept (p ∷ ps) (Some w ∷ rs) = (p.0, w) ∷ kept ps rs

-- the items of xs are some of ys, in their order
abbrev pub IsSubsequence : {A : Type 0} → List A → List A → Type 0
IsSubsequence [] ys = ⊤
IsSubsequence {A} (x ∷ xs) ys = (before : List A) × (after : List A) × (ys ≡ before ++ x ∷ after) × IsSubsequence xs after

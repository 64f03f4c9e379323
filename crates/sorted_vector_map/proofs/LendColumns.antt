-- Pairs that lie in a row are their values, their keys, and what else it takes to put each pair together. Assumes `Logic`.
--     slots_of            the slots that the pairs are seen as
--     keys_lie, keys_seen the keys where they lie, and what a `&` to each of them has
--     apart, together     the pairs taken apart, and put together with other values
--     sees_slots          what a `&` to each slot has, out of that to its key
use mathlib.Core.Path.{◌≡◌, refl, ap}
use Prim.Native.Nat.{ℕ, suc, ◌+◌}
use mathlib.Core.List.{List, [], ◌∷◌, map}
use lib.ListN.{length}
use seplogic.Ra.Ura.{Ura}
use base.Fraction.{full_share}
use base.Logic.{SProp, ent, sep, emp, wand, id⊢, never_e, all_e, apply∗}
use base.Fml.{Lft, Fml, ftrue, fsep, Incl}
use contract.Fact.{fact_i}
use contract.Monad.{fact}
use types.Logic.{Logic, sem}
use types.SemTy.{cells}
use types.Kit.{‵, raw, ◌⊛◌, given, learn, ◌$◌, ◌∵◌, !, qed, by, move, keep, drop, use1, use2, use3, split, split3, join, fsplit, fjoin, feq_i, done}
use denote.RattleType.{RattleType, Denots}
use denote.Memory.{mem, lone, part_of, shared_of, each_shared}
use denote.RawPtr.{Ptr, block_ptr, lies_at}
use denote.Sharing.{nothing as no_sharing, beside}
use denote.Shares.{Shares-less}
use denote.Steps.{nothing}
use denote.Struct.Lending.{lent_at, Lends, Lends-lies, Lends-both, Lends-nothing}
use denote.Struct.Members.{Member, parts_at, rows_of}
use denote.Struct.Parts.{PartsBack, Struct-parts}
use Rattle.std.specs.Mem.{type_size}
use Rattle.sorted_vector_map.specs.Loans.{lie_at_each}
use Rattle.sorted_vector_map.specs.Refilled.{with_values}
use Rattle.sorted_vector_map.specs.Slots.{LentPair, pair_of, cell_of}
use Rattle.sorted_vector_map.proofs.LendForm.{Two, KR, VR, KD, VD, K-laws, V-laws, PairR, SlotR, to_key, to_value}

module _ (E : Two) where
  abbrev pub Pairs : Type 0
  Pairs = List (KD E × VD E)

  abbrev pub pair_size : ℕ
  pair_size = type_size (PairR E)

  abbrev fields : List Member
  fields = record { row = KR E; ty = lone (KR E).mir } ∷ record { row = VR E; ty = lone (VR E).mir } ∷ []

  abbrev pub slots_of : Pairs → ℕ → ℕ → List (LentPair (KD E) (VD E))
  slots_of [] b o = []
  slots_of (p ∷ ps) b o = record { key = p.0; place = block_ptr b (o + to_value E); value = p.1 } ∷ slots_of ps b (o + pair_size)

  abbrev pub places_of : Pairs → ℕ → ℕ → List Ptr
  places_of ps b o = map (λ c. c.0) (map cell_of (slots_of ps b o))

  abbrev pub values_of : Pairs → ℕ → ℕ → List (VD E)
  values_of ps b o = map (λ c. c.1) (map cell_of (slots_of ps b o))

  abbrev pub keys_lie : Pairs → ℕ → ℕ → Fml
  keys_lie [] b o = ftrue
  keys_lie (p ∷ ps) b o = fsep (lies_at (KR E) full_share (block_ptr b (o + to_key E)) p.0) (keys_lie ps b (o + pair_size))

  abbrev pub keys_seen : Pairs → ℕ → ℕ → Lft → Fml
  keys_seen [] b o = no_sharing
  keys_seen (p ∷ ps) b o = beside (lent_at (KR E) (block_ptr b (o + to_key E)) p.0) (keys_seen ps b (o + pair_size))

  pub pairs_of_slots : (ps : Pairs) (b o : ℕ) → map pair_of (slots_of ps b o) ≡ ps
  pairs_of_slots [] b o = refl
  pairs_of_slots (p ∷ ps) b o = ap (λ l. p ∷ l) (pairs_of_slots ps b (o + pair_size))

  pub values_of_slots : (ps : Pairs) (b o : ℕ) → values_of ps b o ≡ map (λ p. p.1) ps
  values_of_slots [] b o = refl
  values_of_slots (p ∷ ps) b o = ap (λ l. p.1 ∷ l) (values_of_slots ps b (o + pair_size))

  pub length-slots_of : (ps : Pairs) (b o : ℕ) → length (slots_of ps b o) ≡ length ps
  length-slots_of [] b o = refl
  length-slots_of (p ∷ ps) b o = ap suc (length-slots_of ps b (o + pair_size))

  pub length-places_of : (ps : Pairs) (b o : ℕ) → length (places_of ps b o) ≡ length ps
  length-places_of [] b o = refl
  length-places_of (p ∷ ps) b o = ap suc (length-places_of ps b (o + pair_size))

module _ (V : RattleType) {M : Type 1} {𝓤 : Ura M} (𝓛 : Logic 𝓤) where
  pub one_at_each : (places : List Ptr) (xs : List V.Denot) → ent 𝓤 (sem 𝓛 (lie_at_each V places xs)) (fact 𝓤 (length xs ≡ length places))
  one_at_each [] [] = fact_i 𝓤 _ (emp 𝓤) refl
  one_at_each [] (x ∷ xs) = never_e 𝓤 _
  one_at_each (p ∷ places) [] = never_e 𝓤 _
  one_at_each (p ∷ places) (x ∷ xs) = qed 𝓛 (‵ (lies_at V full_share p x) ∷ ‵ (lie_at_each V places xs) ∷ []) ∵ drop ! $
      use1 𝓛 (given (length xs ≡ length places) (‵ ftrue)) (one_at_each places xs) $ learn ! (λ e. by ! (fact_i 𝓤 (suc (length xs) ≡ suc (length places)) (emp 𝓤) (ap suc e)))

module _ (E : Two) {M : Type 1} {𝓤 : Ura M} (𝓛 : Logic 𝓤) where
  -- how a pair at (b, o) comes together again
  abbrev PairBack : ℕ → ℕ → SProp 𝓤
  PairBack b o = PartsBack 𝓛 full_share [] (fields E) b o

  abbrev pub EachBack : Pairs E → ℕ → ℕ → SProp 𝓤
  EachBack [] b o = emp 𝓤
  EachBack (p ∷ ps) b o = sep 𝓤 (PairBack b o) (EachBack ps b (o + pair_size E))

  abbrev both_lie : KD E → VD E → ℕ → ℕ → Fml
  both_lie k x b o = fsep (lies_at (KR E) full_share (block_ptr b (o + to_key E)) k) (fsep (lies_at (VR E) full_share (block_ptr b (o + to_value E)) x) ftrue)

  pair_apart : (p : KD E × VD E) (b o : ℕ) → ent 𝓤 (sem 𝓛 ((mem (PairR E)).own_at p b o)) (sep 𝓤 (sem 𝓛 (both_lie p.0 p.1 b o)) (PairBack b o))
  unfolding part_of
  pair_apart p b o = Struct-parts 𝓛 full_share [] (fields E) ((K-laws E).lawful 𝓛, ((V-laws E).lawful 𝓛, tt)) (p.0, (p.1, tt)) b o

  pair_together : (k : KD E) (x : VD E) (b o : ℕ) → ent 𝓤 (sep 𝓤 (sem 𝓛 (both_lie k x b o)) (PairBack b o)) (sem 𝓛 ((mem (PairR E)).own_at (k, x) b o))
  unfolding part_of
  pair_together k x b o =
      let Rows : Type 0 = Denots (rows_of (fields E)) in
      let parts : Rows → SProp 𝓤 = λ a. sem 𝓛 (parts_at full_share (fields E) 0 a b o) in
      let whole : Rows → SProp 𝓤 = λ a. sem 𝓛 ((mem (PairR E)).own_at (a.0, a.1.0) b o) in
      let new : Rows = (k, (x, tt)) in
      qed 𝓛 (raw (parts new) ∷ raw (PairBack b o) ∷ []) ∵ move ! (1 ∷ []) $
      use1 𝓛 (raw (wand 𝓤 (parts new) (whole new))) (all_e 𝓤 (λ (a : Rows). wand 𝓤 (parts a) (whole a)) new) $
      move ! (1 ∷ 0 ∷ []) $ join ! $ by ! (apply∗ 𝓤 (parts new) (whole new))

  pub apart : (ps : Pairs E) (b o : ℕ)
      → ent 𝓤 (sem 𝓛 (cells (mem (PairR E)) ps b o)) (sep 𝓤 (sem 𝓛 (lie_at_each (VR E) (places_of E ps b o) (values_of E ps b o))) (sep 𝓤 (sem 𝓛 (keys_lie E ps b o)) (EachBack ps b o)))
  apart [] b o = qed 𝓛 (‵ ftrue ∷ []) ∵ nothing ! $ nothing ! $ done !
  apart (p ∷ ps) b o =
      let next = o + pair_size E in
      qed 𝓛 (‵ ((mem (PairR E)).own_at p b o) ∷ ‵ (cells (mem (PairR E)) ps b next) ∷ []) ∵ move ! (1 ∷ []) $
      use1 𝓛 (‵ (lie_at_each (VR E) (places_of E ps b next) (values_of E ps b next)) ⊛ ‵ (keys_lie E ps b next) ⊛ raw (EachBack ps b next)) (apart ps b next) $ split3 ! $
      -- [the values behind; the keys behind; their ways back; the pair]
      move ! (3 ∷ []) $ use1 𝓛 (‵ (both_lie p.0 p.1 b o) ⊛ raw (PairBack b o)) (pair_apart p b o) $ split ! $ fsplit ! $ move ! (1 ∷ []) $ fsplit ! $
      -- [the value; nothing; the key; the way back; the values behind; the keys behind; their ways back]
      move ! (3 ∷ 6 ∷ []) $ join ! $ move ! (3 ∷ 5 ∷ []) $ fjoin ! $ move ! (2 ∷ 4 ∷ []) $ fjoin ! $ keep ! (0 ∷ 1 ∷ 2 ∷ []) $ done !

  pub together : (ps : Pairs E) (b o : ℕ) (xs : List (VD E))
      → ent 𝓤 (sep 𝓤 (sem 𝓛 (lie_at_each (VR E) (places_of E ps b o) xs)) (sep 𝓤 (sem 𝓛 (keys_lie E ps b o)) (EachBack ps b o))) (sem 𝓛 (cells (mem (PairR E)) (with_values ps xs) b o))
  together [] b o xs = qed 𝓛 (‵ (lie_at_each (VR E) [] xs) ∷ ‵ ftrue ∷ raw (emp 𝓤) ∷ []) ∵ keep ! (1 ∷ []) $ done !
  together (p ∷ ps) b o [] = qed 𝓛 (‵ (lie_at_each (VR E) (places_of E (p ∷ ps) b o) []) ∷ ‵ (keys_lie E (p ∷ ps) b o) ∷ raw (EachBack (p ∷ ps) b o) ∷ []) ∵ keep ! (0 ∷ []) $ by ! (never_e 𝓤 _)
  together (p ∷ ps) b o (x ∷ xs) =
      let next = o + pair_size E in
      qed 𝓛 (‵ (lie_at_each (VR E) (places_of E (p ∷ ps) b o) (x ∷ xs)) ∷ ‵ (keys_lie E (p ∷ ps) b o) ∷ raw (EachBack (p ∷ ps) b o) ∷ []) ∵
      move ! (2 ∷ []) $ use1 𝓛 (raw (PairBack b o) ⊛ raw (EachBack ps b next)) (id⊢ 𝓤 _) $ split ! $ move ! (2 ∷ []) $ fsplit ! $ move ! (4 ∷ []) $ fsplit ! $
      -- [the key; the keys behind; the value; the values behind; the way back; those behind]
      move ! (3 ∷ 1 ∷ 5 ∷ []) $ use3 𝓛 (‵ (cells (mem (PairR E)) (with_values ps xs) b next)) (together ps b next xs) $
      -- [the pairs behind; the key; the value; the way back]
      nothing ! $ move ! (3 ∷ 0 ∷ []) $ fjoin ! $ move ! (2 ∷ 0 ∷ []) $ fjoin ! $ move ! (0 ∷ 2 ∷ []) $
      use2 𝓛 (‵ ((mem (PairR E)).own_at (p.0, x) b o)) (pair_together p.0 x b o) $ fjoin ! $ done !

  pub sees_slots : (κ : Lft) (ps : Pairs E) (b o : ℕ) → ent 𝓤 (sem 𝓛 (keys_seen E ps b o κ)) (sem 𝓛 (each_shared (slots_of E ps b o) (shared_of (SlotR E)) (pair_size E) b o κ))
  sees_slots κ [] b o = id⊢ 𝓤 (emp 𝓤)
  sees_slots κ (p ∷ ps) b o =
      let next = o + pair_size E in let place : Ptr = block_ptr b (o + to_value E) in
      qed 𝓛 (‵ (lent_at (KR E) (block_ptr b (o + to_key E)) p.0 κ) ∷ ‵ (keys_seen E ps b next κ) ∷ []) ∵ feq_i ! Ptr place place refl $ move ! (1 ∷ 0 ∷ []) $ fjoin ! $ move ! (1 ∷ []) $
      use1 𝓛 (‵ (each_shared (slots_of E ps b next) (shared_of (SlotR E)) (pair_size E) b next κ)) (sees_slots κ ps b next) $ move ! (1 ∷ 0 ∷ []) $ fjoin ! $ done !

  pub lends_keys : (l : Lft) → Incl l E.key.lives → (ps : Pairs E) (b o : ℕ) → Lends 𝓛 (keys_lie E ps b o) (keys_seen E ps b o) l
  lends_keys l lives [] b o = Lends-nothing 𝓛 ftrue l
  lends_keys l lives (p ∷ ps) b o =
      let place : Ptr = block_ptr b (o + to_key E) in let next = o + pair_size E in
      Lends-both 𝓛 (lies_at (KR E) full_share place p.0) (keys_lie E ps b next) (lent_at (KR E) place p.0) (keys_seen E ps b next) l
      (Lends-lies 𝓛 (KR E) l place p.0 (Shares-less 𝓛 (KR E) E.key.lives l lives ((K-laws E).shares 𝓛) p.0)) (lends_keys l lives ps b next)

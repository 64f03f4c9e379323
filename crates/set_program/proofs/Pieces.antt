-- One more piece behind those before it: read into a buffer, or written from a text.
use Rattle.std.proofs.Common.{◌≡◌, ◌+◌, ◌-◌, ◌≤◌, List, ℕ, ◌++◌, length, take, drop, sym, subst, ap, ◌∙◌}
use lib.Seq.{take-add}
use borrow.Rule.Slice.PartMut.{put_mid, post_of}
use Rattle.std.specs.Prelude.{Option}
use Rattle.std.specs.Io.KnownBytes.{Appends, Consumes}
use Rattle.std.proofs.lemmas.List.{take_rest, take-append-le, length-take-le}
use Rattle.std.proofs.Math.Seq.{take-append-add}
use Rattle.std.proofs.KnownBytes.{Appends-trans, Consumes-trans}

-- the front of a buffer into whose rest a piece was put, as far as the first n of that piece
pub take-put_mid_part : (buffer piece : List ℕ) (from room n : ℕ)
    → from ≤ length buffer → n ≤ length piece
    → take (from + n) (put_mid from room buffer piece) ≡ take from buffer ++ take n piece
take-put_mid_part buffer piece from room n inside few =
    let front : length (take from buffer) ≡ from = length-take-le from buffer inside in
    let behind = piece ++ post_of from room buffer in
    ap (λ m. take (m + n) (take from buffer ++ behind)) (sym front)
    ∙ take-append-add (take from buffer) behind n
    ∙ ap (λ rest. take from buffer ++ rest) (take-append-le n piece (post_of from room buffer) few)

-- what was read before and the piece read now are both consumed, and stand one behind the other
pub one_more_read : (a b c : Option (List ℕ)) (buffer piece : List ℕ) (from room n : ℕ)
    → from ≤ length buffer → n ≤ length piece
    → Consumes a b (take from buffer) → Consumes b c (take n piece)
    → Consumes a c (take (from + n) (put_mid from room buffer piece))
one_more_read a b c buffer piece from room n inside few before more =
    let joined = take-put_mid_part buffer piece from room n inside few in
    subst (Consumes a c) (sym joined) (Consumes-trans a b c _ _ before more)

-- the front that was written before grows by the part that was written now of all that was left
pub one_more_written : (a b c : Option (List ℕ)) (all : List ℕ) (from n : ℕ)
    → Appends a b (take from all) → Appends b c (take n (take (length all - from) (drop from all)))
    → Appends a c (take (from + n) all)
one_more_written a b c all from n before piece =
    let left : take n (take (length all - from) (drop from all)) ≡ take n (drop from all) =
    ap (take n) (take_rest all from) in
    let joined = ap (λ rest. take from all ++ rest) left ∙ sym (take-add from n all) in
    subst (Appends a c) joined (Appends-trans a b c _ _ before piece)

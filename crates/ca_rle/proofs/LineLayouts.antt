-- Pieces laid out in lines of at most 70 characters, one after another.
use Rattle.std.proofs.Common.{◌≡◌, ℕ, ◌+◌, ◌<◌, ◌≤◌, List, [], ◌∷◌, ◌++◌, length, inl, inr, sym, ap, subst, ◌∙◌, append_assoc, length-append, arith}
use Rattle.std.specs.List.{flat_map, concat}
use Rattle.std.proofs.lemmas.List.{append-nil}
use Rattle.std.proofs.lemmas.List.Concat.{flat_map-append}
use Rattle.std.proofs.lemmas.List.Folds.{concat-append}
use Rattle.ca_rle.specs.Prelude.{line_with_lf, AreLines}
use Rattle.ca_rle.specs.inner.Written.{IsPlaced, PutsLines, IsOpen, IsLaid}

-- a piece at a line's end
concat-push : (line : List (List ℕ)) (piece : List ℕ) → concat (line ++ piece ∷ []) ≡ concat line ++ piece
concat-push line piece = concat-append line (piece ∷ []) ∙ ap (λ l. concat line ++ l) (append-nil piece)

-- a piece more, in the last line
lines_more : (lines : List (List (List ℕ))) (first piece : List ℕ) (line : List (List ℕ)) → AreLines (lines ++ (first ∷ line) ∷ [])
    → length (concat (first ∷ line)) + length piece ≤ 70 → AreLines (lines ++ (first ∷ (line ++ piece ∷ [])) ∷ [])
lines_more [] first piece line are room =
    let long : length (concat (first ∷ (line ++ piece ∷ []))) ≡ length (concat (first ∷ line)) + length piece =
    ap length (concat-push (first ∷ line) piece) ∙ length-append (concat (first ∷ line)) piece
    in
    (omega arith, omega (arith, long), tt, tt)
lines_more (l ∷ []) first piece line are room = (are.0, are.1, are.2, lines_more [] first piece line are.3 room)
lines_more (l ∷ k ∷ ls) first piece line are room = (are.0, are.1, are.2, lines_more (k ∷ ls) first piece line are.3 room)

-- a piece more, in a new line
lines_new : (lines : List (List (List ℕ))) (line : List (List ℕ)) (piece : List ℕ) → AreLines (lines ++ line ∷ [])
    → 70 < length (concat line) + length piece → length piece ≤ 70 → AreLines ((lines ++ line ∷ []) ++ (piece ∷ []) ∷ [])
lines_new [] line piece are full short =
    let alone : length (concat (piece ∷ [])) ≡ length piece = ap length (append-nil piece) in
    (are.0, are.1, full, (omega arith, omega (arith, alone), tt, tt))
lines_new (l ∷ []) line piece are full short = (are.0, are.1, are.2, lines_new [] line piece are.3 full short)
lines_new (l ∷ k ∷ ls) line piece are full short = (are.0, are.1, are.2, lines_new (k ∷ ls) line piece are.3 full short)

-- the last line with a piece that has room in it
open_more : (closed : List (List (List ℕ))) (last : List (List ℕ)) (piece : List ℕ) → IsOpen closed last → length (concat last) + length piece ≤ 70
    → (0 < length (last ++ piece ∷ [])) × AreLines (closed ++ (last ++ piece ∷ []) ∷ [])
open_more closed [] piece (inl none) room =
    let alone : length (concat (piece ∷ [])) ≡ length piece = ap length (append-nil piece) in
    subst (λ (c : List (List (List ℕ))). (0 < 1) × AreLines (c ++ (piece ∷ []) ∷ [])) (sym none.0) (omega arith, (omega arith, omega (arith, alone), tt, tt))
open_more closed [] piece (inr some) room = absurd (omega (arith, some.0))
open_more closed (t ∷ ts) piece (inl none) room =
    let no : ⊥ = cc (none.1) in absurd no
open_more closed (t ∷ ts) piece (inr some) room = (omega arith, lines_more closed t piece ts some.1 room)

-- a piece without room in it begins a line
open_new : (closed : List (List (List ℕ))) (last : List (List ℕ)) (piece : List ℕ) → IsOpen closed last → 70 < length (concat last) + length piece → length piece ≤ 70
    → AreLines ((closed ++ last ∷ []) ++ (piece ∷ []) ∷ [])
open_new closed last piece (inl none) full short =
    let empty : length (concat last) ≡ 0 = ap (λ l. length (concat l)) none.1 in absurd (omega (arith, empty))
open_new closed last piece (inr some) full short = lines_new closed last piece some.1 full short

pub laid_more : (start text new piece : List ℕ) (filled now : ℕ) (pieces : List (List ℕ)) → IsLaid start text filled pieces → IsPlaced text filled piece new now → length piece ≤ 70
    → IsLaid start new now (pieces ++ piece ∷ [])
laid_more start text new piece filled now pieces laid (inl (room, spelled, count)) short =
    let ends = flat_map (λ line. line_with_lf (concat line)) laid.closed in
    let long : length (concat (laid.open_line ++ piece ∷ [])) ≡ length (concat laid.open_line) + length piece =
    ap length (concat-push laid.open_line piece) ∙ length-append (concat laid.open_line) piece
    in
    record {
      closed = laid.closed;
      open_line = laid.open_line ++ piece ∷ [];
      lines_are = inr (open_more laid.closed laid.open_line piece laid.lines_are (omega (arith, laid.filled_is)));
      whole = sym (append_assoc (flat_map (λ line. line) laid.closed) laid.open_line (piece ∷ [])) ∙ ap (λ l. l ++ piece ∷ []) laid.whole;
      filled_is = count ∙ omega (arith, long, laid.filled_is);
      short = omega arith;
      spelled =
          spelled ∙ ap (λ l. l ++ piece) laid.spelled ∙ append_assoc start (ends ++ concat laid.open_line) piece
          ∙ ap (λ l. start ++ l) (append_assoc ends (concat laid.open_line) piece ∙ ap (λ l. ends ++ l) (sym (concat-push laid.open_line piece)));
    }
laid_more start text new piece filled now pieces laid (inr (full, spelled, count)) short =
    let ends = flat_map (λ line. line_with_lf (concat line)) laid.closed in
    let line = concat laid.open_line in
    let more : flat_map (λ line. line_with_lf (concat line)) (laid.closed ++ laid.open_line ∷ []) ≡ ends ++ (line ++ 10 ∷ []) =
    flat_map-append _ laid.closed (laid.open_line ∷ []) ∙ ap (λ l. ends ++ l) (append-nil (line ++ 10 ∷ []))
    in
    let pieces_more : flat_map (λ line. line) (laid.closed ++ laid.open_line ∷ []) ≡ flat_map (λ line. line) laid.closed ++ laid.open_line =
    flat_map-append (λ (line : List (List ℕ)). line) laid.closed (laid.open_line ∷ []) ∙ ap (λ l. flat_map (λ (line : List (List ℕ)). line) laid.closed ++ l) (append-nil laid.open_line)
    in
    record {
      closed = laid.closed ++ laid.open_line ∷ [];
      open_line = piece ∷ [];
      lines_are = inr (omega arith, open_new laid.closed laid.open_line piece laid.lines_are (omega (arith, laid.filled_is)) short);
      whole = ap (λ l. l ++ piece ∷ []) (pieces_more ∙ laid.whole);
      filled_is = count ∙ ap length (sym (append-nil piece));
      short = omega arith;
      spelled =
          spelled ∙ ap (λ l. l ++ 10 ∷ piece) laid.spelled ∙ append_assoc start (ends ++ line) (10 ∷ piece)
          ∙ ap (λ l. start ++ l) (append_assoc ends line (10 ∷ piece) ∙ sym (ap (λ l. l ++ concat (piece ∷ [])) more ∙ simp (append_assoc, append-nil)));
    }

-- the last line ended
pub laid_end : (start text new piece : List ℕ) (filled : ℕ) (pieces : List (List ℕ)) → IsLaid start text filled (pieces ++ piece ∷ []) → new ≡ text ++ 10 ∷ []
    → PutsLines start new (pieces ++ piece ∷ [])
laid_end start text new piece filled pieces laid ends = done laid.lines_are
  where
    done : IsOpen laid.closed laid.open_line → PutsLines start new (pieces ++ piece ∷ [])
    done (inl none) =
        let count : 0 ≡ length (pieces ++ piece ∷ []) = ap length (sym (ap (λ c. flat_map (λ (line : List (List ℕ)). line) c ++ laid.open_line) none.0 ∙ none.1) ∙ laid.whole) in
        absurd (omega (arith, count, length-append pieces (piece ∷ [])))
    done (inr some) =
        let text_of = λ (line : List (List ℕ)). line_with_lf (concat line) in
        let line = concat laid.open_line in
        record {
          lines = laid.closed ++ laid.open_line ∷ [];
          whole =
              flat_map-append (λ (line : List (List ℕ)). line) laid.closed (laid.open_line ∷ [])
              ∙ ap (λ l. flat_map (λ (line : List (List ℕ)). line) laid.closed ++ l) (append-nil laid.open_line) ∙ laid.whole;
          lines_are = some.1;
          spelled =
              ends ∙ ap (λ l. l ++ 10 ∷ []) laid.spelled ∙ append_assoc start (flat_map text_of laid.closed ++ line) (10 ∷ [])
              ∙ ap (λ l. start ++ l) (append_assoc (flat_map text_of laid.closed) line (10 ∷ []) ∙ ap (λ l. flat_map text_of laid.closed ++ l) (sym (append-nil (line ++ 10 ∷ [])))
              ∙ sym (flat_map-append text_of laid.closed (laid.open_line ∷ [])));
        }

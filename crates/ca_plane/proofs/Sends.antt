-- Texts sent piece by piece: for callers that send several.
use Rattle.std.proofs.Common.{◌≡◌, ℕ, ◌-◌, Option, List, ◌++◌, sym, ap, ◌∙◌, arith, append_assoc, length, length-append, take, drop, take-append-drop}
use Rattle.std.proofs.lemmas.List.{take_rest}
use Rattle.std.proofs.KnownBytes.{Appends-trans}
use Rattle.std.specs.Io.KnownBytes.{Appends}
use Rattle.ca_plane.specs.Prelude.{AppendsPrefix}

-- two pieces sent are the one and then the other
pub sent_both : (old mid new : Option (List ℕ)) (xs ys : List ℕ) → Appends old mid xs → Appends mid new ys → Appends old new (xs ++ ys)
sent_both old mid new xs ys first second = Appends-trans old mid new xs ys first second

-- a prefix of the first piece is a prefix of both
pub prefix_of_first : (old new : Option (List ℕ)) (xs ys : List ℕ) → AppendsPrefix old new xs → AppendsPrefix old new (xs ++ ys)
prefix_of_first old new xs ys (sent, unsent, split, some, appends) =
    (sent, unsent ++ ys, ap (λ l. l ++ ys) split ∙ append_assoc sent unsent ys, omega (arith, some, length-append unsent ys), appends)

-- the first piece and a prefix of the second are a prefix of both
pub prefix_of_second : (old mid new : Option (List ℕ)) (xs ys : List ℕ) → Appends old mid xs → AppendsPrefix mid new ys → AppendsPrefix old new (xs ++ ys)
prefix_of_second old mid new xs ys first (sent, unsent, split, some, appends) =
    (xs ++ sent, unsent, ap (λ l. xs ++ l) split ∙ sym (append_assoc xs sent unsent), some, Appends-trans old mid new xs sent first appends)

-- what is sent and what isn't yet, after n more bytes were taken
pub sent_more : (all sent unsent : List ℕ) (n : ℕ) → all ≡ sent ++ unsent → all ≡ (sent ++ take n unsent) ++ take (length unsent - n) (drop n unsent)
sent_more all sent unsent n split =
    split ∙ ap (λ l. sent ++ l) (sym (take-append-drop n unsent)) ∙ sym (append_assoc sent (take n unsent) (drop n unsent)) ∙ ap (λ l. (sent ++ take n unsent) ++ l) (sym (take_rest unsent n))

-- A text is a file in one way at most.
use Rattle.std.proofs.Common.{◌≡◌, ℕ, List, Option, unwrap_or, sym, ap, subst, ◌∙◌}
use Rattle.std.specs.List.{flat_map, AllZip}
use Rattle.ca_plane.specs.Prelude.{default_rule}
use Rattle.ca_rle.specs.Prelude.{Items, IsHeader, extended_words, CxrleWord, WordSays, RleFile, corner_of, generation_of, IsHeaded, IsRleFile}
use Rattle.ca_rle.proofs.OneList.{one_list}
use Rattle.ca_rle.proofs.OneHeader.{one_header, all_said}
use Rattle.ca_rle.proofs.OnePlace.{one_place, headed_place}

-- lines before the header, the header and the body are found in one way
pub one_headed : (bytes : List ℕ) (a b : List CxrleWord) (r s : Option (List ℕ)) (m n : List ℕ) → IsHeaded bytes a r m → IsHeaded bytes b s n → (a ≡ b) × (r ≡ s) × (m ≡ n)
one_headed bytes a b r s m n p q =
    let f = one_place bytes p.lines q.lines p.header q.header m n (headed_place bytes a r m p) (headed_place bytes b s n q) in
    let words = subst (λ (l : List (List ℕ)). AllZip WordSays (flat_map extended_words l) a) f.0 p.follows.preamble.words in
    (all_said (flat_map extended_words q.lines) a b words q.follows.preamble.words, one_header q.header r s (subst (λ (l : List ℕ). IsHeader l r) f.1 p.header_is) q.header_is, f.2)

same_file : (f g : RleFile) → f.corner ≡ g.corner → f.generation ≡ g.generation → f.rule_text ≡ g.rule_text → f.items ≡ g.items → f ≡ g
same_file f g c n r i = λ t. record { corner = c t; generation = n t; rule_text = r t; items = i t }

pub one_file : (bytes : List ℕ) (f g : RleFile) → IsRleFile bytes f → IsRleFile bytes g → f ≡ g
one_file bytes f g p q =
    let h = one_headed bytes p.said q.said p.rule q.rule p.body q.body p.headed q.headed in
    same_file f g
    (p.corner ∙ ap corner_of h.0 ∙ sym q.corner)
    (p.generation ∙ ap generation_of h.0 ∙ sym q.generation)
    (p.rule_text ∙ ap (λ (o : Option (List ℕ)). unwrap_or o default_rule) h.1 ∙ sym q.rule_text)
    (one_list q.body f.items g.items (subst (λ (l : List ℕ). Items l f.items) h.2 p.items) q.items)

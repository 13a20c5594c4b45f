use Rattle.std.proofs.Common.{◌≡◌, ℕ, Bool, true, List, [], ◌++◌, ◌∷◌, Some, None, inl, inr, lit<, lit≤, true≢false, false, ◌==◌, codes, refl, sym, ap, ◌∙◌}
use Rattle.ca_rle.specs.Prelude.{size_parts}
use Rattle.std.specs.List.{list_any}
use Rattle.std.proofs.lemmas.Bool.{or_left, or_right}
use Rattle.std.proofs.lemmas.List.{append_cancel_left}
use Rattle.ca_rle.specs.declared.fault.RleFault.TheVariants.{Syntax, NoEnd, BadState, GenTooLarge}
use Rattle.ca_rle.specs.declared.item.Tag.TheVariants.{Cell}
use Rattle.ca_rle.proofs.ReadItems.{run_found}
use Rattle.ca_rle.proofs.Headers.{spaced_found, no_header}
use Rattle.ca_rle.proofs.ExampleHeaders.{some_lines, no_lines, line_follows, plain_header, ruled_header, bad_item, bad_word, no_header_after}
use Rattle.ca_rle.proofs.examples.worked_faults.Goals as goal

-- a byte among others that passes
any_after : (test : ℕ → Bool) (a : List ℕ) (c : ℕ) (b : List ℕ) → test c ≡ true → list_any test (a ++ c ∷ b) ≡ true
any_after test [] c b h = or_left (test c) (list_any test b) h
any_after test (d ∷ ds) c b h = or_right (test d) (list_any test (ds ++ c ∷ b)) (any_after test ds c b h)

-- a list that holds no comma isn't split by one
no_comma : (bytes a b : List ℕ) → list_any (λ c. c == 44) bytes ≡ false → bytes ≡ a ++ 44 ∷ b → ⊥
no_comma bytes a b n e = true≢false (sym (any_after (λ c. c == 44) a 44 b refl) ∙ ap (list_any (λ c. c == 44)) (sym e) ∙ n)

pub returns-clause-count : goal.returns-clause-count
returns-clause-count c =
    let body = codes "\n0b!" in inr (bad_item _ None body body [] Syntax (plain_header (codes "x = 1, y = 1") body refl refl refl) refl refl)

pub returns-clause-word : goal.returns-clause-word
returns-clause-word c =
    inl
    (bad_word (codes "#CXRLE Pos=1") (codes "Pos=1") (codes "\nx = 1, y = 1\no!") Syntax refl refl refl refl
    (inl (refl, λ x y says. no_comma (codes "1") says.0 says.1 refl (append_cancel_left (codes "Pos=") _ _ says.2))))

pub returns-clause-empty : goal.returns-clause-empty
returns-clause-empty c = no_header_after [] [] [] no_lines refl refl (no_header [] refl refl) (inr (refl, ([], tt)))

pub returns-clause-comma : goal.returns-clause-comma
returns-clause-comma c =
    let line = codes "x = 3, y = 3," in no_header_after [] line (codes "\n3o!") no_lines refl refl (no_header line refl refl) (inl refl)

pub returns-clause-xlife : goal.returns-clause-xlife
returns-clause-xlife c =
    let xlife = codes "#r 23/3" in
    let header = codes "x = 1, y = 1" in
    let body = codes "\no!" in
    record {
      lines = xlife ∷ [];
      said = [];
      header = header;
      body = body;
      xlife = xlife;
      earlier = [];
      others = [];
      follows = line_follows (xlife ∷ []) [] header body (some_lines (xlife ∷ []) [] (refl, tt) (refl, tt) tt) refl refl;
      is_xlife = ([], 32, codes "23/3", refl, refl, refl);
      among = refl;
      header_is = inl (spaced_found (size_parts []) header refl);
    }

pub returns-clause-cut_off : goal.returns-clause-cut_off
returns-clause-cut_off c =
    let body = codes "\n3o" in
    let headed = plain_header (codes "x = 3, y = 1") body refl refl refl in
    bad_item _ None body [] (record { count = 3; tag = Cell 1 } ∷ []) NoEnd headed (run_found body [] [] _ [] refl (lit< tt) refl) refl

pub returns-clause-state : goal.returns-clause-state
returns-clause-state c =
    let body = codes "\nyP!" in
    let headed = ruled_header [] [] (codes "x = 1, y = 1, rule = Star") body (codes "Star") [] no_lines refl refl refl refl refl in
    bad_item _ (Some (codes "Star")) body body [] BadState headed refl refl

pub returns-clause-generation : goal.returns-clause-generation
returns-clause-generation c =
    let digits = codes "9223372036854775808" in
    bad_word (codes "#CXRLE Gen=9223372036854775808") (codes "Gen=9223372036854775808") (codes "\nx = 1, y = 1\no!") GenTooLarge refl refl refl refl
    (digits, refl, refl, lit≤ tt)

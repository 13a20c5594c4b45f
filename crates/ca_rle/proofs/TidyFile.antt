-- A tidy text is an RLE file of its plane.
use Rattle.std.proofs.Common.{◌≡◌, ◌≢◌, ℕ, ◌+◌, ◌<◌, ◌≤◌, ◌^◌, inl, List, [], ◌∷◌, ◌++◌, Some, ℤ, refl, sym, subst, ◌∙◌, append_assoc, append-nil, arith}
use Rattle.std.specs.List.{AllZip, AllByRecursion}
use Rattle.ca_plane.specs.Prelude.{IsWord, Picture, cell, IsSame, IsInPlane}
use Rattle.ca_rle.specs.declared.item.Item.{Item}
use Rattle.ca_rle.specs.Prelude.{extended_words, WordSays, RleFile, line_with_lf, IsRleFile, picture_of_items, corner_line, header_line, IsTidyRle}
use Rattle.ca_rle.proofs.OneFile.{one_file}
use Rattle.ca_rle.proofs.TidyBody.{all_written, text_of, lines_spell}
use Rattle.ca_rle.proofs.TidyHead.{SaysBoth, corner_line_says, header_line_is, header_line_is_line}
use Rattle.ca_rle.proofs.TidyReach.{AreNear, IsFrameNear, frame_near, tidy_counts_near}

-- what a tidy text holds
abbrev pub tidy_file : (text : List ℕ) (cells : Picture) (rule_text : List ℕ) (generation states : ℕ) → IsTidyRle text cells rule_text generation states → RleFile
tidy_file text cells rule_text generation states t = record { corner = t.corner; generation = generation; rule_text = rule_text; items = t.items }

fewer : (far : ℕ) (is : List Item) → far < 2 ^ 63 → AllByRecursion (λ i. (0 < i.count) × (i.count ≤ far + far + 1)) is → AllByRecursion (λ i. (0 < i.count) × (i.count < 2 ^ 64)) is
fewer far [] small all = tt
fewer far (i ∷ is) small (c, cs) = ((c.0, omega (arith, c.1)), fewer far is small cs)

in_parts : (a b c : List ℕ) → line_with_lf a ++ (line_with_lf b ++ c) ≡ (line_with_lf a ++ []) ++ (b ++ 10 ∷ c)
in_parts a b c = simp (append_assoc, append-nil)

-- where each live cell is near the origin, so that each number has its decimal form
pub tidy_is_file : (far : ℕ) (text : List ℕ) (cells : Picture) (rule_text : List ℕ) (generation states : ℕ) (t : IsTidyRle text cells rule_text generation states)
    → far < 2 ^ 63 → AreNear far cells → IsWord rule_text → generation < 2 ^ 63 → IsRleFile text (tidy_file text cells rule_text generation states t)
tidy_is_file far text cells rule_text generation states t small near word low =
    let frame : IsFrameNear far t.corner t.width t.height = frame_near far cells t.corner t.width t.height near t.frame in
    let counts = tidy_counts_near far cells t.corner t.items near frame.x frame.y t.tidy t.shown in
    let says : SaysBoth (corner_line t.corner generation) t.corner generation = corner_line_says far t.corner generation (omega arith) frame.x frame.y low in
    let wide : t.width < 2 ^ 64 = omega (arith, frame.wide) in
    let high : t.height < 2 ^ 64 = omega (arith, frame.high) in
    record {
      said = says.said;
      rule = Some rule_text;
      body = 10 ∷ text_of t.lines;
      headed = record {
        lines = corner_line t.corner generation ∷ [];
        header = header_line t.width t.height rule_text;
        follows = record {
          preamble = record {
            each_is_line = (says.is_line, tt);
            comments = (says.comment, tt);
            words = subst (λ l. AllZip WordSays l says.said) (sym (append-nil (extended_words (corner_line t.corner generation)))) says.words;
          };
          line_is = header_line_is_line t.width t.height rule_text wide high word;
          line_ends = refl;
          spelled = t.spelled ∙ in_parts (corner_line t.corner generation) (header_line t.width t.height rule_text) (text_of t.lines);
        };
        header_is = header_line_is t.width t.height rule_text wide high word;
        named = inl refl;
      };
      items = lines_spell states t.lines t.items (10 ∷ []) refl (all_written states t.items (fewer far t.items small counts) t.have_states) t.whole;
      corner = sym says.corner_is;
      generation = sym says.generation_is;
      rule_text = refl;
    }

-- the cells of a plane are near enough
near_in_plane : (cells : Picture) → ((x y : ℤ) → cell cells x y ≢ 0 → IsInPlane (record { y = y; x = x })) → AreNear (2 ^ 62) cells
near_in_plane cells within x y live = let h = within x y live in ((h.0, h.1), (h.2, h.3))

pub file_of_tidy : (text : List ℕ) (cells : Picture) (rule_text : List ℕ) (generation states : ℕ) (t : IsTidyRle text cells rule_text generation states)
    → IsWord rule_text → generation < 2 ^ 63 → ((x y : ℤ) → cell cells x y ≢ 0 → IsInPlane (record { y = y; x = x })) → IsRleFile text (tidy_file text cells rule_text generation states t)
file_of_tidy text cells rule_text generation states t word low within = tidy_is_file (2 ^ 62) text cells rule_text generation states t (omega arith) (near_in_plane cells within) word low

-- the file has this plane, rule text and generation
abbrev pub Holds : RleFile → Picture → List ℕ → ℕ → Type 0
Holds file cells rule_text generation = IsSame cells (picture_of_items file.corner file.items) × (file.rule_text ≡ rule_text) × (file.generation ≡ generation)

pub tidy_holds : (text : List ℕ) (cells : Picture) (rule_text : List ℕ) (generation states : ℕ) (t : IsTidyRle text cells rule_text generation states)
    → Holds (tidy_file text cells rule_text generation states t) cells rule_text generation
tidy_holds text cells rule_text generation states t = (t.shown, refl, refl)

-- and so has each file of the text
pub only_of_tidy : (text : List ℕ) (cells : Picture) (rule_text : List ℕ) (generation states : ℕ) → IsTidyRle text cells rule_text generation states
    → IsWord rule_text → generation < 2 ^ 63 → ((x y : ℤ) → cell cells x y ≢ 0 → IsInPlane (record { y = y; x = x }))
    → (file : RleFile) → IsRleFile text file → Holds file cells rule_text generation
only_of_tidy text cells rule_text generation states t word low within file is =
    let same = one_file text (tidy_file text cells rule_text generation states t) file (file_of_tidy text cells rule_text generation states t word low within) is in
    subst (λ f. Holds f cells rule_text generation) same (tidy_holds text cells rule_text generation states t)

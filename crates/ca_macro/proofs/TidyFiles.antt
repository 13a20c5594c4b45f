-- A tidy text is a file of its cells.
use Rattle.std.proofs.Common.{◌≡◌, ◌≢◌, ℕ, ◌+◌, ◌-◌, ◌<◌, ◌≤◌, ◌^◌, ◌==◌, ◌&&◌, inl, inr, true, List, [], ◌∷◌, ◌++◌, map, length, Option, Some, None, codes, decimal, ℤ, refl, sym, ap, ◌∙◌, arith, length-append}
use Rattle.std.specs.List.{AllByRecursion, flat_map, last_or}
use Rattle.std.specs.Ordering.{int_eq}
use Rattle.std.proofs.lemmas.Bool.{cases_Bool, eqb-true}
use Rattle.ca_plane.specs.Prelude.{lines_of, IsWord, IsInRange, Picture, cell, Puts}
use Rattle.std.proofs.lemmas.List.{length-map}
use Rattle.ca_plane.proofs.Pictures.{cell-first}
use Rattle.ca_plane.specs.declared.point.Point.{Point}
use Rattle.ca_macro.specs.Prelude.{Node, Leaf, Cells, Parts, MayFollow, Rule, Generation, Adds, added_nodes, MacrocellLinesSay, last_rule, last_line_generation, MacrocellFile, begins_macro}
use Rattle.ca_macro.specs.Prelude.{IsMacrocellFile, root_picture, picture_of_nodes, IsMacrocellWithinRange, AreInRange, Holds, AreInPlace, HasForm, node_text, generation_lines, tidy_lines}
use Rattle.ca_macro.specs.Prelude.{IsTidyMacrocell, AreTidyNodes}
use Rattle.ca_macro.specs.declared.write.written.WrittenNode.{WrittenNode}
use Rattle.ca_macro.specs.inner.Written.{node_of}
use Rattle.ca_macro.proofs.Roots.{least_as}
use Rattle.ca_macro.proofs.Gathering.{names_low}
use Rattle.ca_macro.proofs.Pictures.{NoneDead, shifted_live}
use Rattle.ca_macro.proofs.TidyLines.{IsLine, lines_read, AreSmall, node_said, node_line, rule_said, rule_line, generation_said, generation_line}
use Rattle.ca_macro.proofs.WrittenNodes.{live_at}

-- ---- numbers of nodes are at most as many as bytes

line_some : (lines : List (List ℕ)) → length lines ≤ length (flat_map (λ line. line ++ 10 ∷ []) lines)
line_some [] = omega arith
line_some (l ∷ ls) =
    let a = line_some ls in
    let b = length-append (l ++ 10 ∷ []) (flat_map (λ line. line ++ 10 ∷ []) ls) in
    let c = length-append l (10 ∷ []) in
    omega arith

small_after : (most : ℕ) (earlier : List Node) (n : Node) → most < 2 ^ 64 → length earlier ≤ most → MayFollow earlier n → AreSmall n
small_after most earlier (Leaf rows) h k stands = tt
small_after most earlier (Cells nw ne sw se) h k stands = tt
small_after most earlier (Parts level nw ne sw se) h k stands =
    let low = names_low earlier (level - 1) in
    let a = low nw stands.1.0 in
    let b = low ne stands.1.1.0 in
    let c = low sw stands.1.1.1.0 in
    let d = low se stands.1.1.1.1.0 in
    (omega arith, (omega arith, (omega arith, (omega arith, tt))))

-- ---- what the lines of the nodes say

module _ (states most : ℕ) (fits : most < 2 ^ 64) where
  nodes_say : (earlier ns : List Node) → length earlier + length ns ≤ most → AreInPlace earlier ns → AllByRecursion (HasForm states) ns → MacrocellLinesSay earlier (map node_text ns) (map Adds ns)
  nodes_say earlier [] h place forms = tt
  nodes_say earlier (n ∷ ns) h place forms =
      let count = length-append earlier (n ∷ []) in
      (node_said states earlier n forms.0 place.0 (small_after most earlier n fits (omega arith) place.0), place.0, nodes_say (earlier ++ n ∷ []) ns (omega arith) place.1 forms.1)

  nodes_lines : (earlier ns : List Node) → length earlier + length ns ≤ most → AreInPlace earlier ns → AllByRecursion IsLine (map node_text ns)
  nodes_lines earlier [] h place = tt
  nodes_lines earlier (n ∷ ns) h place =
      let count = length-append earlier (n ∷ []) in
      (node_line earlier n place.0 (small_after most earlier n fits (omega arith) place.0), nodes_lines (earlier ++ n ∷ []) ns (omega arith) place.1)

added_all : (ns : List Node) → flat_map added_nodes (map Adds ns) ≡ ns
added_all [] = refl
added_all (n ∷ ns) = ap (λ l. n ∷ l) (added_all ns)

no_rule : (rule : List ℕ) (ns : List Node) → rule ≡ last_rule rule (map Adds ns)
no_rule rule [] = refl
no_rule rule (n ∷ ns) = no_rule rule ns

no_generation : (count : ℕ) (ns : List Node) → count ≡ last_line_generation count (map Adds ns)
no_generation count [] = refl
no_generation count (n ∷ ns) = no_generation count ns

-- ---- the file

abbrev pub tidy_file : List Node → List ℕ → ℕ → MacrocellFile
tidy_file ns rule generation = record { nodes = ns; rule_text = rule; generation = generation }

begin_tidy : (rule : List ℕ) (more : List (List ℕ)) → begins_macro (flat_map (λ line. line ++ 10 ∷ []) (codes "[M2] (cafile)" ∷ (codes "#R " ++ rule) ∷ more)) ≡ true
begin_tidy rule more = refl

module _ (states : ℕ) (text rule : List ℕ) (generation : ℕ) (ns : List Node) (word : IsWord rule) (low : generation < 2 ^ 63) (most : length ns < 2 ^ 64) (place : AreInPlace [] ns) (forms : AllByRecursion (HasForm states) ns)
    (spelled : text ≡ flat_map (λ line. line ++ 10 ∷ []) (tidy_lines rule generation ns)) where
  said_nodes : MacrocellLinesSay [] (map node_text ns) (map Adds ns)
  said_nodes = nodes_say states (length ns) most [] ns (omega arith) place forms

  lines_nodes : AllByRecursion IsLine (map node_text ns)
  lines_nodes = nodes_lines states (length ns) most [] ns (omega arith) place

  without : generation ≡ 0 → text ≡ flat_map (λ line. line ++ 10 ∷ []) (codes "[M2] (cafile)" ∷ (codes "#R " ++ rule) ∷ map node_text ns) → IsMacrocellFile text (tidy_file ns rule generation)
  without none whole = record {
    first = codes "[M2] (cafile)";
    lines = (codes "#R " ++ rule) ∷ map node_text ns;
    said = Rule rule ∷ map Adds ns;
    begins = ap begins_macro whole ∙ begin_tidy rule (map node_text ns);
    lines_are = ap lines_of whole ∙ lines_read _ (refl, (rule_line rule word, lines_nodes));
    say = (rule_said rule word, tt, said_nodes);
    nodes = sym (added_all ns);
    rule_text = no_rule rule ns;
    generation = none ∙ no_generation 0 ns;
  }

  with_generation : text ≡ flat_map (λ line. line ++ 10 ∷ []) (codes "[M2] (cafile)" ∷ (codes "#R " ++ rule) ∷ (codes "#G " ++ decimal generation) ∷ map node_text ns) → IsMacrocellFile text (tidy_file ns rule generation)
  with_generation whole = record {
    first = codes "[M2] (cafile)";
    lines = (codes "#R " ++ rule) ∷ (codes "#G " ++ decimal generation) ∷ map node_text ns;
    said = Rule rule ∷ Generation generation ∷ map Adds ns;
    begins = ap begins_macro whole ∙ begin_tidy rule ((codes "#G " ++ decimal generation) ∷ map node_text ns);
    lines_are = ap lines_of whole ∙ lines_read _ (refl, (rule_line rule word, (generation_line generation low, lines_nodes)));
    say = (rule_said rule word, tt, (generation_said generation low, tt, said_nodes));
    nodes = sym (added_all ns);
    rule_text = no_rule rule ns;
    generation = no_generation generation ns;
  }

  pub is_file : IsMacrocellFile text (tidy_file ns rule generation)
  is_file =
      elim (cases_Bool (generation == 0)) [
        | inl e ↦ without (eqb-true generation 0 e) (rw e at spelled)
        | inr e ↦ with_generation (rw e at spelled)
      ]

-- ---- the range

later_live : (e : Point × ℕ) (es p : Picture) → NoneDead (e ∷ es) → AllByRecursion (λ f. cell es f.0.x f.0.y ≢ 0) p → AllByRecursion (λ f. cell (e ∷ es) f.0.x f.0.y ≢ 0) p
later_live e es [] live a = tt
later_live e es (f ∷ p) live a = (
  elim (cases_Bool (int_eq f.0.y e.0.y && int_eq f.0.x e.0.x)) [
    | inl t ↦ λ z. live.0 (sym (rw t refl) ∙ z)
    | inr t ↦ λ z. a.0 (sym (rw t refl) ∙ z)
  ],
  later_live e es p live a.1,
)

listed_live : (p : Picture) → NoneDead p → AllByRecursion (λ e. cell p e.0.x e.0.y ≢ 0) p
listed_live [] live = tt
listed_live (e ∷ es) live = (λ z. live.0 (sym (cell-first e es) ∙ z), later_live e es es live (listed_live es live.1))

all_in_range : (p q : Picture) (cells : ℤ → ℤ → ℕ) → AreInRange cells → ((x y : ℤ) → cells x y ≡ cell p x y) → AllByRecursion (λ e. cell p e.0.x e.0.y ≢ 0) q → AllByRecursion (λ e. IsInRange e.0) q
all_in_range p [] cells range shown a = tt
all_in_range p (e ∷ es) cells range shown a = (range e.0.x e.0.y (λ z. a.0 (sym (shown e.0.x e.0.y) ∙ z)), all_in_range p es cells range shown a.1)

rooted_live : (root : Option Node) (square : Picture) → NoneDead square → NoneDead (root_picture root square)
rooted_live None square live = tt
rooted_live (Some root) square live = shifted_live square _ _ live

pub picture_in_range : (ns : List Node) (cells : ℤ → ℤ → ℕ) → AreInRange cells → ((x y : ℤ) → cells x y ≡ cell (picture_of_nodes ns) x y) → AllByRecursion (λ e. IsInRange e.0) (picture_of_nodes ns)
picture_in_range ns cells range shown =
    all_in_range (picture_of_nodes ns) (picture_of_nodes ns) cells range shown (listed_live (picture_of_nodes ns) (rooted_live (last_or None ns) _ (live_at ns (length ns))))

-- ---- a tidy text

count_nodes : (rule : List ℕ) (generation : ℕ) (ns : List Node) → length ns ≤ length (tidy_lines rule generation ns)
count_nodes rule generation ns =
    let a = length-append (generation_lines generation) (map node_text ns) in
    let b = length-map ns node_text in
    omega arith

module _ (text : List ℕ) (cells : ℤ → ℤ → ℕ) (rule : List ℕ) (generation states : ℕ) (t : IsTidyMacrocell text cells rule generation states) where
  pub file_of_tidy : IsWord rule → generation < 2 ^ 63 → length text < 2 ^ 64 → IsMacrocellFile text (tidy_file t.nodes rule generation)
  file_of_tidy word low short =
      let a = line_some (tidy_lines rule generation t.nodes) in
      let b = count_nodes rule generation t.nodes in
      let c = ap length t.spelled in
      is_file states text rule generation t.nodes word low (omega arith) t.tidy.in_place t.tidy.forms t.spelled

  pub tidy_holds : Holds (tidy_file t.nodes rule generation) cells rule generation
  tidy_holds = record { shown = λ x y. sym (t.tidy.shown x y); rule_is = refl; generation_is = refl }

  pub tidy_within : AreInRange cells → IsMacrocellWithinRange (tidy_file t.nodes rule generation)
  tidy_within range = picture_in_range t.nodes cells range t.tidy.shown

-- ---- the text that is written

-- the nodes of cells are those of the same cells
pub tidy_nodes_as : (states : ℕ) (other cells : ℤ → ℤ → ℕ) (ns : List Node) → ((x y : ℤ) → other x y ≡ cells x y) → AreTidyNodes states other ns → AreTidyNodes states cells ns
tidy_nodes_as states other cells ns same a = record {
  root = a.root;
  shown = λ x y. sym (same x y) ∙ a.shown x y;
  root_is_last = a.root_is_last;
  level = least_as states _ other cells same a.level;
  in_place = a.in_place;
  forms = a.forms;
  distinct = a.distinct;
  empties = a.empties;
  order = a.order;
}

pub tidy_text : (none text rule : List ℕ) (other cells : ℤ → ℤ → ℕ) (generation states : ℕ) (given ns : List WrittenNode) → none ≡ [] → given ≡ ns
    → Puts none text (flat_map (λ line. line ++ 10 ∷ []) (tidy_lines rule generation (map node_of given))) → ((x y : ℤ) → other x y ≡ cells x y) → AreTidyNodes states other (map node_of ns)
    → IsTidyMacrocell text cells rule generation states
tidy_text none text rule other cells generation states given ns empty same puts shown a = record {
  nodes = map node_of ns;
  tidy = tidy_nodes_as states other cells (map node_of ns) shown a;
  spelled = puts.whole ∙ ap (λ l. l ++ flat_map (λ line. line ++ 10 ∷ []) (tidy_lines rule generation (map node_of given))) empty
      ∙ ap (λ l. flat_map (λ line. line ++ 10 ∷ []) (tidy_lines rule generation (map node_of l))) same;
}

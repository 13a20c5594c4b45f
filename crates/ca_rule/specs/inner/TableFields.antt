-- How the fields of a line are read, one after another.
use Rattle.std.specs.Prelude.{◌≡◌, ◌≤◌, ℕ, List, [], ◌∷◌, ◌++◌, length, map, true, codes, Option, option_and_then}
use Rattle.std.specs.List.{list_all}
use Rattle.ca_plane.specs.Prelude.{is_blank, Every, rest}
use Rattle.ca_rule.specs.declared.table.fields.FieldsLeft.{FieldsLeft}
use Rattle.ca_rule.specs.declared.table.fields.FieldsLeft.TheVariants.{Between, Bytes}
use Rattle.ca_rule.specs.TableLines.{tail_after, is_field, fields_between}

-- the fields that are left
abbrev pub fields_left : FieldsLeft → List (List ℕ)
fields_left (Between bytes) = fields_between bytes.now
fields_left (Bytes bytes) = map (λ b. b ∷ []) bytes.now

-- they are the fields of a transition: one or more, and ten at most
pub record AreTransitionFields (fields : List (List ℕ)) : Type 0 where
  pub some : 1 ≤ length fields
  pub few : length fields ≤ 10
  pub spelled : list_all is_field fields ≡ true

-- what follows `=` and `{`, with blanks before either
abbrev pub after_brace : List ℕ → Option (List ℕ)
after_brace bytes = option_and_then (λ more. tail_after (codes "{") (rest is_blank more)) (tail_after (codes "=") (rest is_blank bytes))

-- `=`, and then this in braces; blanks may be before `=` and `{`
pub record IsBraced (bytes inside : List ℕ) : Type 0 where
  pub second : List ℕ
  pub third : List ℕ
  pub second_blanks : Every is_blank second
  pub third_blanks : Every is_blank third
  pub spelled : bytes ≡ second ++ (codes "=" ++ (third ++ (codes "{" ++ (inside ++ codes "}"))))

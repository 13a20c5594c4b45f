-- The lines of a tidy text, as they are put.
use Rattle.std.proofs.Common.{◌≡◌, ℕ, zero, suc, ◌-◌, ◌/◌, ◌%◌, ◌≤◌, ◌==◌, false, inl, inr, List, [], ◌∷◌, ◌++◌, map, take, length, codes, refl, sym, ap, subst, ◌∙◌, append_assoc, arith}
use Rattle.std.specs.List.{flat_map}
use Rattle.std.proofs.lemmas.Bool.{cases_Bool, eqb-true}
use Rattle.std.proofs.lemmas.Grind.{flat_map-append}
use Rattle.std.proofs.lemmas.List.{take_all}
use Rattle.ca_plane.specs.Prelude.{Puts}
use Rattle.ca_macro.specs.Prelude.{leaf_mark, node_text}
use Rattle.ca_macro.specs.declared.write.written.WrittenNode.{WrittenNode}
use Rattle.ca_macro.specs.inner.Written.{row_marks, node_of}

pub puts_on : (a b c t u : List ℕ) → Puts a b t → Puts b c u → Puts a c (t ++ u)
puts_on a b c t u p q = record { whole = q.whole ∙ ap (λ l. l ++ u) p.whole ∙ append_assoc a t u }

-- and all of them
pub puts_all : {A : Type 0} (f : A → List ℕ) (xs : List A) (i : ℕ) (start text : List ℕ) → length xs ≤ i → Puts start text (flat_map f (take i xs)) → Puts start text (flat_map f xs)
puts_all f xs i start text h p = subst (λ l. Puts start text (flat_map f l)) (take_all i xs h) p

pub lines_as : (ns : List WrittenNode) → flat_map (λ n. node_text (node_of n) ++ 10 ∷ []) ns ≡ flat_map (λ line. line ++ 10 ∷ []) (map node_text (map node_of ns))
lines_as [] = refl
lines_as (n ∷ ns) = ap (λ l. (node_text (node_of n) ++ 10 ∷ []) ++ l) (lines_as ns)

pub rows_as : (rows : List ℕ) → flat_map (λ (row : ℕ). map leaf_mark (row_marks 8 row) ++ 36 ∷ []) rows ≡ flat_map (λ row. map leaf_mark row ++ 36 ∷ []) (map (row_marks 8) rows)
rows_as [] = refl
rows_as (r ∷ rs) = ap (λ l. (map leaf_mark (row_marks 8 r) ++ 36 ∷ []) ++ l) (rows_as rs)

abbrev ended : List ℕ → List ℕ
ended line = line ++ 10 ∷ []

-- the first two lines, the generation's and those of the nodes
pub text_whole : (rule : List ℕ) (g m : List (List ℕ)) → codes "[M2] (cafile)\n#R " ++ (rule ++ (10 ∷ [] ++ (flat_map ended g ++ flat_map ended m))) ≡ flat_map ended (codes "[M2] (cafile)" ∷ (codes "#R " ++ rule) ∷ (g ++ m))
text_whole rule g m =
    sym (ap (λ l. codes "[M2] (cafile)\n#R " ++ l) (append_assoc rule (10 ∷ []) (flat_map ended (g ++ m)) ∙ ap (λ l. rule ++ (10 ∷ l)) (flat_map-append ended g m)))

pub puts_five : (a b c d e f t u v w x : List ℕ) → Puts a b t → Puts b c u → Puts c d v → Puts d e w → Puts e f x → Puts a f (t ++ (u ++ (v ++ (w ++ x))))
puts_five a b c d e f t u v w x p q r s y = puts_on a b f t (u ++ (v ++ (w ++ x))) p (puts_on b c f u (v ++ (w ++ x)) q (puts_on c d f v (w ++ x) r (puts_on d e f w x s y)))

pub unequal : (a b : ℕ) → (a ≡ b → ⊥) → (a == b) ≡ false
unequal a b h = elim (cases_Bool (a == b)) [ inl e ↦ absurd (h (eqb-true a b e)) | inr e ↦ e ]

-- a row's first cell, and the others
pub row_step : (width bits : ℕ) (more : List ℕ) → (width ≡ 0 → ⊥) → (bits ≡ 0 → ⊥) → leaf_mark (bits % 2 == 1) ∷ (map leaf_mark (row_marks (width - 1) (bits / 2)) ++ more) ≡ map leaf_mark (row_marks width bits) ++ more
row_step zero bits more w b = absurd (w refl)
row_step (suc width) bits more w b =
    let e : suc width - 1 ≡ width = omega arith in
    let f = unequal bits 0 b in
    rw (f, e) refl

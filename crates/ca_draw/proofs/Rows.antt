-- Rows, and the bytes in them, as they are put one after the other.
use Rattle.std.proofs.Common.{◌≡◌, ℕ, suc, ◌+◌, ◌≤◌, List, ◌++◌, sym, ap, ◌∙◌, append_assoc, arith}
use Rattle.ca_plane.specs.Prelude.{Puts}
use Rattle.ca_draw.specs.Prelude.{texts_below}

-- one more text
pub texts_more : (start now new more : List ℕ) (i : ℕ) (text : ℕ → List ℕ) → Puts start now (texts_below i text) → Puts now new more → more ≡ text i → Puts start new (texts_below (i + 1) text)
texts_more start now new more i text p q e =
    let next : i + 1 ≡ suc i = omega arith in
    record { whole = q.whole ∙ (ap (λ l. l ++ more) p.whole ∙ (append_assoc start (texts_below i text) more ∙ ap (λ t. start ++ (texts_below i text ++ t)) e)) ∙ ap (λ n. start ++ texts_below n text) (sym next) }

-- all of them, and what follows
pub texts_all : (start now new end : List ℕ) (i n : ℕ) (text : ℕ → List ℕ) → i ≤ n → n ≤ i → Puts start now (texts_below i text) → Puts now new end → Puts start new (texts_below n text ++ end)
texts_all start now new end i n text g h p q =
    let same : i ≡ n = omega arith in
    record { whole = q.whole ∙ (ap (λ l. l ++ end) p.whole ∙ (append_assoc start (texts_below i text) end ∙ ap (λ k. start ++ (texts_below k text ++ end)) same)) }

-- Which words are UTF-8.
use Rattle.std.proofs.Common.{◌≡◌, ℕ, Bool, true, false, not, List, refl, sym, ap}
use Rattle.std.specs.Prelude.{Result, Ok, Err, is_err, MatchResult}
use Rattle.std.specs.Str.{IsUtf8, is_utf8}
use Rattle.std.proofs.lemmas.Str.{IsUtf8-from_is_utf8, is_utf8-from_IsUtf8}
use Rattle.ca_cli.specs.RawWords.{is_raw, stand_in, text_of_word}

not_true : (test : Bool) → (test ≡ true → ⊥) → test ≡ false
not_true true isnt = absurd (isnt refl)
not_true false isnt = refl

fails : (bytes : List ℕ) → (IsUtf8 bytes → ⊥) → is_utf8 bytes ≡ false
fails bytes isnt = not_true (is_utf8 bytes) (λ test. isnt (IsUtf8-from_is_utf8 bytes test))

pub text_of_utf8 : (bytes : List ℕ) → IsUtf8 bytes → text_of_word bytes ≡ bytes
text_of_utf8 bytes is = rw (is_utf8-from_IsUtf8 bytes is) refl

pub text_of_raw : (bytes : List ℕ) → (IsUtf8 bytes → ⊥) → text_of_word bytes ≡ stand_in
text_of_raw bytes isnt = rw (fails bytes isnt) refl

-- a word isn't UTF-8 exactly where it isn't read as that
pub err_of_raw : {T E : Type 0} (bytes : List ℕ) (read : Result T E) (Text : T → Type 0) (Fault : E → Type 0)
    → MatchResult read (λ text. Text text × IsUtf8 bytes) (λ fault. (IsUtf8 bytes → ⊥) × Fault fault) → is_err read ≡ is_raw bytes
err_of_raw bytes (Ok text) Text Fault reads = ap not (sym (is_utf8-from_IsUtf8 bytes reads.1))
err_of_raw bytes (Err fault) Text Fault reads = ap not (sym (fails bytes reads.0))

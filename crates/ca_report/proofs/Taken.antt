-- Bytes that come in pieces.
use Rattle.std.proofs.Common.{ℕ, ◌+◌, ◌<◌, ◌≤◌, List, ◌++◌, length, Option, arith}
use Rattle.std.specs.Io.KnownBytes.{Consumes}
use Rattle.std.proofs.KnownBytes.{Consumes-trans}
use Rattle.std.proofs.lemmas.List.{length-append}
use Rattle.ca_report.specs.Prelude.{max_file, GivesSome}

-- bytes came, and then a piece: together they came, and are as long as both
pub with_piece : (old mid new : Option (List ℕ)) (bytes piece : List ℕ) (Within : ℕ → Type 0) → Consumes old mid bytes → Consumes mid new piece → Within (length bytes + length piece) → (all : List ℕ) × Within (length all) × Consumes old new all
with_piece old mid new bytes piece Within came read within = (bytes ++ piece, rw (length-append bytes piece) within, Consumes-trans old mid new bytes piece came read)

-- and where the piece has a byte, they are some
pub with_some : (old mid new : Option (List ℕ)) (bytes piece : List ℕ) → Consumes old mid bytes → Consumes mid new piece → 0 < length piece → length bytes + length piece ≤ max_file → GivesSome old new
with_some old mid new bytes piece came read some within =
    let both = length-append bytes piece in (bytes ++ piece, omega arith, omega arith, Consumes-trans old mid new bytes piece came read)

-- A macrocell text read line by line, to its end or to its first fault.
use Rattle.std.proofs.Common.{◌≡◌, ℕ, ◌+◌, ◌<◌, ◌≤◌, List, [], ◌∷◌, ◌++◌, length, true, refl, sym, ap, subst, ◌∙◌, arith}
use Rattle.std.specs.List.{flat_map}
use Rattle.std.proofs.lemmas.List.{append-nil, append_assoc, length_push}
use Rattle.ca_plane.specs.Prelude.{lines_of, words_of}
use Rattle.ca_quad.specs.declared.node.Node.{Node as Kept}
use Rattle.ca_quad.specs.Prelude.{Grows}
use Rattle.ca_quad.proofs.Growth.{grows_on}
use Rattle.ca_macro.specs.declared.{fault.MacroFault.MacroFault, read.reading.Reading.Reading}
use Rattle.ca_macro.specs.declared.fault.MacroFault.TheVariants.{NotMacro, Memory}
use Rattle.ca_macro.specs.Prelude.{Node, MacrocellLine, MacrocellWordsSay, added_nodes, IsAllowedNode, MacrocellLinesSay, begins_macro, HasMacrocellLine, AreFaulty, AddNode}
use Rattle.ca_macro.specs.inner.Reading.{HasNodeFault, HasFaultOn, IsMacrocellReading}

-- ---- one more line

added-append : (said more : List MacrocellLine) → flat_map added_nodes (said ++ more) ≡ flat_map added_nodes said ++ flat_map added_nodes more
added-append [] more = refl
added-append (s ∷ said) more = ap (λ l. added_nodes s ++ l) (added-append said more) ∙ sym (append_assoc (added_nodes s) (flat_map added_nodes said) (flat_map added_nodes more))

-- the nodes, once one more line has said this
pub added-push : (said : List MacrocellLine) (s : MacrocellLine) → flat_map added_nodes (said ++ s ∷ []) ≡ flat_map added_nodes said ++ added_nodes s
added-push said s = added-append said (s ∷ []) ∙ ap (λ l. flat_map added_nodes said ++ l) (append-nil (added_nodes s))

allowed_after : (e f : List Node) (s : MacrocellLine) → e ≡ f → IsAllowedNode e s → IsAllowedNode f s
allowed_after e f s same h = subst (λ l. IsAllowedNode l s) same h

pub MacrocellLinesSay-push : (earlier : List Node) (lines : List (List ℕ)) (said : List MacrocellLine) (l : List ℕ) (s : MacrocellLine) → MacrocellLinesSay earlier lines said
    → MacrocellWordsSay (words_of l) s → IsAllowedNode (earlier ++ flat_map added_nodes said) s → MacrocellLinesSay earlier (lines ++ l ∷ []) (said ++ s ∷ [])
MacrocellLinesSay-push earlier [] [] l s h says allowed = (says, allowed_after (earlier ++ []) earlier s (append-nil earlier) allowed, tt)
MacrocellLinesSay-push earlier [] (t ∷ said) l s h says allowed = absurd h
MacrocellLinesSay-push earlier (k ∷ ks) [] l s h says allowed = absurd h
MacrocellLinesSay-push earlier (k ∷ ks) (t ∷ said) l s h says allowed =
    (h.0, h.1, MacrocellLinesSay-push (earlier ++ added_nodes t) ks said l s h.2 says (allowed_after (earlier ++ (added_nodes t ++ flat_map added_nodes said)) ((earlier ++ added_nodes t) ++ flat_map added_nodes said) s (sym (append_assoc earlier (added_nodes t) (flat_map added_nodes said))) allowed))

-- ---- line by line

-- `count` lines of the text are read into the store, and these bytes are left
pub record AreRead (bytes rest : List ℕ) (count : ℕ) (old store : List Kept) (reading : Reading) : Type 0 where
  pub first : List ℕ
  pub good : List (List ℕ)
  pub said : List MacrocellLine
  pub lines : lines_of bytes ≡ first ∷ (good ++ lines_of rest)
  pub say : MacrocellLinesSay [] good said
  pub read : IsMacrocellReading store said reading
  pub grows : Grows old store
  pub counted : count ≡ length good + 1
  pub few : count + length rest ≤ length bytes

-- before the first line but the one that names the format
pub none_read : (bytes line rest : List ℕ) (store : List Kept) (reading : Reading) → lines_of bytes ≡ line ∷ lines_of rest → IsMacrocellReading store [] reading → Grows store store
    → length rest < length bytes → AreRead bytes rest 1 store store reading
none_read bytes line rest store reading lines read grows shorter =
    record { first = line; good = []; said = []; lines = lines; say = tt; read = read; grows = grows; counted = refl; few = omega arith }

module _ (bytes rest : List ℕ) (count : ℕ) (old store : List Kept) (reading : Reading) (front : AreRead bytes rest count old store reading) where
  -- one more line
  pub one_read : (line later : List ℕ) (new : List Kept) (after : Reading) → lines_of rest ≡ line ∷ lines_of later → Grows store new
      → ((said : List MacrocellLine) → IsMacrocellReading store said reading → (s : MacrocellLine) × MacrocellWordsSay (words_of line) s × IsAllowedNode (flat_map added_nodes said) s × IsMacrocellReading new (said ++ s ∷ []) after)
      → length later < length rest → AreRead bytes later (count + 1) old new after
  one_read line later new after next grows says shorter =
      let s = says front.said front.read in
      record {
        first = front.first;
        good = front.good ++ line ∷ [];
        said = front.said ++ s.0 ∷ [];
        lines = front.lines ∙ ap (λ l. front.first ∷ (front.good ++ l)) next ∙ ap (λ l. front.first ∷ l) (sym (append_assoc front.good (line ∷ []) (lines_of later)));
        say = MacrocellLinesSay-push [] front.good front.said line s.0 front.say s.1 s.2;
        read = s.3;
        grows = grows_on old store new front.grows grows;
        counted = let more = length_push front.good line in let counted = front.counted in omega arith;
        few = let few = front.few in omega arith;
      }

  -- the line that follows, of whose words this holds
  abbrev next_line : (P : List Node → List (List ℕ) → Type 0) (line later : List ℕ) → begins_macro bytes ≡ true → lines_of rest ≡ line ∷ lines_of later
      → P (flat_map added_nodes front.said) (words_of line) → HasMacrocellLine bytes P
  next_line P line later begins next holds = record {
    first = front.first;
    good = front.good;
    line = line;
    later = lines_of later;
    said = front.said;
    begins = begins;
    lines_are = front.lines ∙ ap (λ l. front.first ∷ (front.good ++ l)) next;
    say = front.say;
    holds = holds;
  }

  -- it is faulty
  faulty_next : (f : MacroFault) (line later : List ℕ) → begins_macro bytes ≡ true → lines_of rest ≡ line ∷ lines_of later → AreFaulty f (flat_map added_nodes front.said) (words_of line)
      → (found : HasMacrocellLine bytes (AreFaulty f)) × (count + 1 ≡ length found.good + 2)
  faulty_next f line later begins next holds = (next_line (AreFaulty f) line later begins next holds, let same : count + 1 ≡ length front.good + 2 = let counted = front.counted in omega arith in same)

  -- its fault is that of the text
  pub fault_next : (line later : List ℕ) → begins_macro bytes ≡ true → lines_of rest ≡ line ∷ lines_of later
      → (f : MacroFault) → ((said : List MacrocellLine) → IsMacrocellReading store said reading → HasNodeFault f (flat_map added_nodes said) (words_of line)) → HasFaultOn bytes f (count + 1)
  fault_next line later begins next NotMacro h = absurd (h front.said front.read)
  fault_next line later begins next Memory h = next_line AddNode line later begins next (h front.said front.read)
  fault_next line later begins next f h = faulty_next f line later begins next (h front.said front.read)

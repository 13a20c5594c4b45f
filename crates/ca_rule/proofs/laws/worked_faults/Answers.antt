use Rattle.std.proofs.Common.{codes, refl, inl, inr, []}
use Rattle.ca_rule.specs.declared.hood.Hood.TheVariants.{Moore, VonNeumann, Hex}
use Rattle.ca_rule.proofs.SpelledDigits.{spells-no_lists, spells-birth, spells-survival}
use Rattle.ca_rule.proofs.laws.worked_faults.Goals as goal

pub returns-clause-wakes : goal.returns-clause-wakes
returns-clause-wakes c = (
  (refl, (codes "03", codes "23", Moore, record { birth_digits = refl; survival_digits = refl; form = inl (98, 115, [], [], inr refl, inr refl, inl refl, refl, refl) }, refl)),
  ((refl, (codes "0", [], Moore, record { birth_digits = refl; survival_digits = refl; form = inr (inr ([], refl, refl)) }, refl)), tt),
)

pub returns-clause-unknown : goal.returns-clause-unknown
returns-clause-unknown c =
    let name = spells-no_lists (codes "Life") (codes "Life") Moore refl refl refl in
    let none = spells-no_lists [] [] Moore refl refl refl in
    let nine = spells-birth (codes "B9/S") (codes "B9/S") Moore refl refl (codes "9") [] 8 refl refl refl in
    let five = spells-birth (codes "B5/SV") (codes "B5/S") VonNeumann refl refl (codes "5") [] 4 refl refl refl in
    let seven = spells-birth (codes "B7/SH") (codes "B7/S") Hex refl refl (codes "7") [] 6 refl refl refl in
    let with_birth = spells-survival (codes "B08/S9") (codes "B08/S9") Moore refl refl (codes "08") (codes "9") 8 refl refl refl in
    ((refl, name), ((refl, none), ((refl, nine), ((refl, five), ((refl, seven), ((refl, with_birth), tt))))))

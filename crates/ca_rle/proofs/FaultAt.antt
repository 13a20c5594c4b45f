-- Where a first fault stands.
use Rattle.std.proofs.Common.{◌≡◌, ℕ, List, Option, true, inr, sym, true≢false}
use Rattle.ca_rle.specs.declared.fault.RleFault.{RleFault}
use Rattle.ca_rle.specs.declared.fault.RleFault.TheVariants.{Syntax, NoEnd, BadState}
use Rattle.ca_rle.specs.Prelude.{InLine, CxrleWord, IsHeaded, after_white, HasBadItemAt, IsFirstFaultAt}
use Rattle.ca_rle.specs.inner.BodyFaults.{HasBadUnitAt}
use Rattle.ca_rle.proofs.FileOrFault.{is_of_item, item_fault_kind}

bad_item_at : (bytes : List ℕ) (f : RleFault) (rest : List ℕ) → is_of_item f ≡ true → HasBadItemAt bytes f rest → IsFirstFaultAt bytes f rest
bad_item_at bytes Syntax rest h b = inr b
bad_item_at bytes NoEnd rest h b = b
bad_item_at bytes BadState rest h b = b
bad_item_at bytes f rest h b = absurd (true≢false (sym h))

-- a bad item is the text's fault, after the white space before it
pub body_fault_at : (bytes : List ℕ) (said : List CxrleWord) (rule : Option (List ℕ)) (body bad rest : List ℕ) (f : RleFault) → IsHeaded bytes said rule body → HasBadUnitAt body f bad → rest ≡ after_white InLine bad → IsFirstFaultAt bytes f rest
body_fault_at bytes said rule body bad rest f headed (items, run, fault) e =
    bad_item_at bytes f rest (item_fault_kind bad f fault) (record { said = said; rule = rule; body = body; items = items; bad = bad; headed = headed; good = run; fault_is = fault }, e)

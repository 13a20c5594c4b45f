-- What holds of each kind of claim: a further kind adds its case here.
use Rattle.std.proofs.Common.{◌≡◌, ◌≤◌, refl, sym, subst, ◌∙◌, arith}
use Rattle.std.specs.Prelude.{pos}
use Rattle.std.proofs.lemmas.Int.{ints}
use Rattle.ca_text.specs.declared.{kind.Kind.Kind, asks.Asks.Asks, asks.Forbidden.Forbidden}
use Rattle.ca_text.specs.declared.kind.Kind.TheVariants.{Still, Oscillator, Spaceship, Becomes, BecomesShifted, Dies}
use Rattle.ca_text.specs.declared.asks.Forbidden.TheVariants.{Nothing, InPlace, Anywhere, EmptyPlane}
use Rattle.ca_plane.specs.Prelude.{most_generations}
use Rattle.ca_text.specs.Prelude.{IsShift, HasGoodNumbers, asks_of}
use Rattle.ca_verify.specs.inner.Decided.{ForbidsReturns, IsBounded}

-- (0, 0) is a shift
no_shift : IsShift (pos 0)
no_shift = (omega (arith, ints), omega (arith, ints))

-- what forbids a return forbids no empty plane
no_death : (forbidden : Forbidden) → ForbidsReturns forbidden → forbidden ≡ EmptyPlane → ⊥
no_death forbidden returns death = subst ForbidsReturns death returns

-- a claim that forbids nothing
unforbidden : (asks : Asks) → asks.forbidden ≡ Nothing → asks.generations ≤ most_generations → IsShift asks.dx → IsShift asks.dy → IsBounded asks
unforbidden asks nothing few right down = record {
  few = few;
  right = right;
  down = down;
  live = λ some. absurd (some nothing);
  own = λ returns. absurd (subst ForbidsReturns nothing returns);
  returns = λ returns. absurd (subst ForbidsReturns nothing returns);
  short = λ returns. absurd (subst ForbidsReturns nothing returns);
  none = λ death. absurd (no (sym nothing ∙ death));
  some = λ some. absurd (some nothing);
}
  where
    no : Nothing ≡ EmptyPlane → ⊥
    no e = cc

-- a claim with good numbers asks for few generations, and for a live pattern where something is forbidden
pub asks_bounded : (kind : Kind) → HasGoodNumbers kind → IsBounded (asks_of kind)
asks_bounded Still good = unforbidden (asks_of Still) refl (omega arith) no_shift no_shift
asks_bounded (Oscillator period) good = record {
  few = omega (arith, good.1);
  right = no_shift;
  down = no_shift;
  live = λ _. refl;
  own = λ _. refl;
  returns = λ _. (refl, refl);
  short = λ _. omega (arith, good.1);
  none = λ death. absurd (no_death InPlace tt death);
  some = λ _. omega (arith, good.0);
}
asks_bounded (Spaceship period dx dy) good = record {
  few = omega (arith, good.1);
  right = good.2;
  down = good.3;
  live = λ _. refl;
  own = λ _. refl;
  returns = λ _. tt;
  short = λ _. omega (arith, good.1);
  none = λ death. absurd (no_death Anywhere tt death);
  some = λ _. good.0;
}
asks_bounded (Becomes generations) good = unforbidden (asks_of (Becomes generations)) refl good no_shift no_shift
asks_bounded (BecomesShifted generations dx dy) good = unforbidden (asks_of (BecomesShifted generations dx dy)) refl good.0 good.1 good.2
asks_bounded (Dies generations) good = record {
  few = good.1;
  right = no_shift;
  down = no_shift;
  live = λ _. refl;
  own = λ no. absurd no;
  returns = λ no. absurd no;
  short = λ no. absurd no;
  none = λ _. refl;
  some = λ _. good.0;
}

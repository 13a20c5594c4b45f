use Rattle.std.proofs.Common.{arith, refl}
use Rattle.ca_pattern.proofs.Deaths.{live_at_all, empty_later}
use Rattle.ca_verify.proofs.Deaths.{live_at_last}
use Rattle.ca_verify.proofs.verdict_laws.death_by_the_last_generation.Goals as goal

pub returns-clause-empty_stays : goal.returns-clause-empty_stays
returns-clause-empty_stays c = λ next cells quiet m n low empty. empty_later next cells quiet m n low empty

pub returns-clause-dies : goal.returns-clause-dies
returns-clause-dies c = λ next cells other quiet n. (
  λ true. (true.stands, live_at_last next cells n (true.live refl) true.least),
  λ h. record {
    live = λ _. live_at_all next cells quiet 0 n (omega arith) h.1;
    stands = h.0;
    least = λ m some low. live_at_all next cells quiet m n (omega (arith, low)) h.1;
  },
)

use Rattle.std.proofs.Common.{◌≡◌, ◌<◌, ◌≤◌, ◌^◌, ◌-◌, length, get_or, sym, subst, inl, inr, arith}
use Rattle.std.specs.Int.{bit_at}
use Rattle.std.proofs.lemmas.Bool.{cases_lt}
use Rattle.std.proofs.lemmas.List.{get_or_past}
use Rattle.ca_apgcode.proofs.Heights.{IsHeight-leading}
use lib.Count.{count_leading_zeros}
use Rattle.ca_apgcode.proofs.grid.height_of.Goals as goal

pub returns-in-Some-clause-most : goal.returns-in-Some-clause-most
returns-in-Some-clause-most c =
    let there = c.in-Some.ensures.0 in
    let low : c.in-Some.greatest < 2 ^ 40 = subst (λ n. n < 2 ^ 40) there.2 (c.requires there.0) in
    (IsHeight-leading c.in-Some.greatest (omega (arith, low))).most low

pub returns-in-Some-clause-all : goal.returns-in-Some-clause-all
returns-in-Some-clause-all c = λ x.
    let there = c.in-Some.ensures.0 in
    let low : c.in-Some.greatest < 2 ^ 40 = subst (λ n. n < 2 ^ 40) there.2 (c.requires there.0) in
    let all = (IsHeight-leading c.in-Some.greatest (omega (arith, low))).all in
    let least : get_or c.args.columns.now x 0 ≤ c.in-Some.greatest = elim (cases_lt x (length c.args.columns.now)) [
      | inl within ↦ c.in-Some.ensures.1 x within
      | inr past ↦ omega (arith, get_or_past c.args.columns.now x 0 past)
    ] in
    omega (arith, least, all)

pub returns-in-Some-clause-last : goal.returns-in-Some-clause-last
returns-in-Some-clause-last c = λ some.
    let there = c.in-Some.ensures.0 in
    let low : c.in-Some.greatest < 2 ^ 40 = subst (λ n. n < 2 ^ 40) there.2 (c.requires there.0) in
    let last = (IsHeight-leading c.in-Some.greatest (omega (arith, low))).last some in
    (there.0, subst (λ n. bit_at n (64 - count_leading_zeros 64 c.in-Some.greatest - 1) ≡ 1) (sym there.2) last)

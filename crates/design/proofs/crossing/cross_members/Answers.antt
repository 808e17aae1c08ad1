-- `cross_members` meets its contract: all pairs are orthogonal, or the first that is not is found.
use mathlib.Core.Path.{refl, sym, ap, ◌∙◌}
use Rattle.rules.proofs.Members.{clash}
use Rattle.design.specs.Search.{cross_second, first_of}
use Rattle.design.specs.Sides.{test_of}
use Rattle.design.proofs.Search.{cross_none, cross_all}
use Rattle.design.proofs.Joins.{joins_tested}
use Rattle.design.proofs.crossing.cross_members.Goals as goal

pub first_crossed-requires : goal.first_crossed-requires
first_crossed-requires c =
    let s = c.args.sides.now in
    let found = c.cross_all.new.found in
    let pair = c.in_ok-apart.apart in
    λ i j hi hj. joins_tested s.plot.plots s.plot.bytes.now s.treatment.bytes.now found.bytes found.size _ c.cross_all.ensures.kept.table pair.0 pair.1 c.in_ok-apart.ensures.apart.2 i j hi hj

pub returns-in_err-apart : goal.returns-in_err-apart
unfolding cross_second
returns-in_err-apart c =
    let s = c.args.sides.now in
    let e = c.in_err-apart.ensures in
    rw c.from_residual.ensures record {
      first = sym (cross_none (test_of s) s.plot.size s.treatment.size (e.all refl));
      second = refl;
      some = tt;
      places = λ _. e.places refl;
    }

pub returns : goal.returns
returns c =
    let s = c.args.sides.now in
    let e = c.first_crossed.ensures in
    let pair = c.in_ok-apart.apart in
    let apart = c.in_ok-apart.ensures.apart in record {
      first = e.first;
      second = e.second;
      some = e.some;
      places = λ z. clash (cross_all (test_of s) s.plot.size s.treatment.size (sym e.first ∙ ap first_of z) pair.0 pair.1 apart.0 apart.1) apart.2;
    }

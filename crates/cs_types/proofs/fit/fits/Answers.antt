use Rattle.std.proofs.Common.{FitsSigned, rules}
use Rattle.std.specs.Int.{w128}
use Rattle.std.proofs.lemmas.Int.{to_z-of_z}
use Rattle.cs_types.proofs.FitLemmas.{fit-nearest}
use Rattle.cs_types.proofs.fit.fits.Goals as goal

pub returns-in-Number-clause-nearest : goal.returns-in-Number-clause-nearest
returns-in-Number-clause-nearest c =
    let range : FitsSigned w128 c.in-Number.m = search rules in
    fit-nearest c.args.kind c.args.nullable c.args.loose c.fit_number.result (rw c.in-Number.is (simp to_z-of_z at c.fit_number.ensures))

use Rattle.std.proofs.Common.{arith}
use Rattle.std.proofs.lemmas.Slice.Zip.{AllZip-long}
use Rattle.lattice.specs.Words.{output_numbers}
use Rattle.interp_run.specs.Phases.{no_cares}
use Rattle.interp_run.proofs.OutputLists.{length-output_numbers, zip_output}
use Rattle.interp_run.proofs.solve.count_first_points.Goals as goal

pub bounds-cares-0 : goal.bounds-cares-0
bounds-cares-0 g c = let n = c.args.pla.now.outputs in
    omega (arith, AllZip-long _ c.args.cares.now (output_numbers n) c.requires, length-output_numbers n, c.args.pla.now.fits.some_outputs)

pub count_points-requires : goal.count_points-requires
count_points-requires g c =
    let are = zip_output _ c.args.cares.now _ 0 no_cares c.requires (omega (arith, c.args.pla.now.fits.some_outputs)) in
    record { zeros = are.0; ones = are.1 }

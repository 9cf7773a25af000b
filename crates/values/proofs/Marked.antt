-- The marked examples hold, by computing them.
use Rattle.std.proofs.Common.{refl}
use lib.Count.{ones, ones_in}
use Rattle.values.specs.Marked.{MarkedHold}
use Rattle.values.specs.Values.{constant_of, one_of, two_of, compared_of, shifted_of, wired_of, code_of, value_of}

pub marked_hold : MarkedHold
unfolding constant_of one_of two_of compared_of shifted_of wired_of code_of value_of ones ones_in
marked_hold = refl

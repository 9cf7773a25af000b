-- `netlist::bad_record` meets its contract. What `find` gives over the nodes' numbers is the lowest record that is not good.
use Rattle.std.proofs.Common.{◌≡◌, true, false, rules, tests}
use Rattle.std.proofs.lemmas.Iterator.{first_from_Range}
use Rattle.base.proofs.First.{found_lowest}
use Rattle.codes.specs.Records.{record_good}
use Rattle.netlist.specs.Netlists.{record_of}
use Rattle.netlist.proofs.bad_record.Goals as goal

pub returns : goal.returns
returns c =
    let n = c.args.net.now in
    found_lowest (λ i. record_good n.width n.nodes i (record_of n i)) n.nodes _
    (first_from_Range _ _ _ _ (λ i. record_good n.width n.nodes i (record_of n i) ≡ false) (λ i. record_good n.width n.nodes i (record_of n i) ≡ true) c.find.ensures.ran
    (λ x q k. search (rules, tests))
    (λ x q k. (search rules, search (rules, tests))))

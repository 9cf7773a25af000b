-- `layout::load::load_bytes` meets its contract. What is not stored past the list's end, the definition does not either.
use Rattle.layout.proofs.Loads.{filled}
use Rattle.layout.proofs.load.load_bytes.Goals as goal

pub returns : goal.returns
returns c = filled c.args.bytes.now c.args.into.now c.copy_from_slice.new.self c.min-n.result c.min-n.ensures c.copy_from_slice.ensures.after

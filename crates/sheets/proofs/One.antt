-- Each promise determines its result, and what it leaves in a lent image: stated of the contracts as the source has them.
use mathlib.Core.Path.{◌≡◌, refl, sym, ◌∙◌}
use mathlib.Core.List.{List}
use Prim.Native.Nat.{ℕ}
use lib.ListN.{length}
use seplogic.Ra.Ura.{Ura}
use base.Logic.{SProp}
use prog.Memory.{Memory}
use prog.Routine.{Routine}
use types.Logic.{Logic}
use contract.Monad.{Fun, fact}
use contract.Lifetimes.{Lfts}
use denote.Triple.Clauses.{AtExit}
use denote.Triple.Entry.{Args, Res}
use Rattle.base.specs.Promises.{OneResult, OneLeft}
use Rattle.net_sheet.specs.Writing.{net_wrote, net_written}
use Rattle.cut_sheet.specs.Reading.{cut_read}
use Rattle.cut_sheet.specs.Writing.{cut_wrote, cut_written}
use Rattle.sheets.proofs.cwazi_read_net.Kinds as read-net-kinds
use Rattle.sheets.proofs.cwazi_read_net.Reads as read-net
use Rattle.sheets.proofs.cwazi_label.Kinds as label-kinds
use Rattle.sheets.proofs.cwazi_label.Reads as label
use Rattle.sheets.specs.contracts.cwazi_write_net as write-net
use Rattle.sheets.specs.contracts.cwazi_read_cut as read-cut
use Rattle.sheets.specs.contracts.cwazi_write_cut as write-cut

pub cwazi_read_net_one : OneResult 1 read-net-kinds.ps read-net-kinds.r read-net.Post
cwazi_read_net_one κs a r r' x x' p q = p ∙ sym q

pub cwazi_label_one : OneResult 2 label-kinds.ps label-kinds.r label.Post
cwazi_label_one κs a r r' x x' p q = p ∙ sym q

-- what each `ensures` says of the arguments, the result and what is left
abbrev write_net_says : (κs : Lfts 2) → Args write-net.signature κs → Res write-net.signature κs → AtExit write-net.ended κs → Type 0
write_net_says κs a r x = (r ≡ net_wrote a.0.now (length a.1.0.now)) × (x.1.0.now ≡ net_written a.0.now a.1.0.now)

abbrev read_cut_says : (κs : Lfts 2) → Args read-cut.signature κs → Res read-cut.signature κs → AtExit read-cut.ended κs → Type 0
read_cut_says κs a r x = r ≡ cut_read a.0.now a.1.0.now

abbrev write_cut_says : (κs : Lfts 3) → Args write-cut.signature κs → Res write-cut.signature κs → AtExit write-cut.ended κs → Type 0
write_cut_says κs a r x =
    (r ≡ cut_wrote a.0.now a.1.0.now (length a.1.1.0.now)) × (x.1.1.0.now ≡ cut_written a.0.now a.1.0.now a.1.1.0.now)

module _ {M : Type 1} {𝓤 : Ura M} (𝓛 : Logic 𝓤) (mem : Memory → SProp 𝓤) (runs : Routine → Fun 𝓤) where
  pub write_net_says_lem : (κs : Lfts 2) (a : Args write-net.signature κs) (r : Res write-net.signature κs) (x : AtExit write-net.ended κs) → (write-net.clauses 𝓛 mem runs κs a).ensures tt r x ≡ fact 𝓤 (write_net_says κs a r x)
  write_net_says_lem κs a r x = refl

  pub read_cut_says_lem : (κs : Lfts 2) (a : Args read-cut.signature κs) (r : Res read-cut.signature κs) (x : AtExit read-cut.ended κs) → (read-cut.clauses 𝓛 mem runs κs a).ensures tt r x ≡ fact 𝓤 (read_cut_says κs a r x)
  read_cut_says_lem κs a r x = refl

  pub write_cut_says_lem : (κs : Lfts 3) (a : Args write-cut.signature κs) (r : Res write-cut.signature κs) (x : AtExit write-cut.ended κs) → (write-cut.clauses 𝓛 mem runs κs a).ensures tt r x ≡ fact 𝓤 (write_cut_says κs a r x)
  write_cut_says_lem κs a r x = refl

pub cwazi_write_net_one : OneLeft write-net.ended write_net_says (λ κs x. x.1.0.now)
cwazi_write_net_one κs a r r' x x' p q = (p.0 ∙ sym q.0, p.1 ∙ sym q.1)

pub cwazi_read_cut_one : OneLeft {A = Unit} read-cut.ended read_cut_says (λ κs x. tt)
cwazi_read_cut_one κs a r r' x x' p q = (p ∙ sym q, refl)

pub cwazi_write_cut_one : OneLeft write-cut.ended write_cut_says (λ κs x. x.1.1.0.now)
cwazi_write_cut_one κs a r r' x x' p q = (p.0 ∙ sym q.0, p.1 ∙ sym q.1)

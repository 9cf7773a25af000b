-- Each promise determines its result: stated of the contracts as the source has them. A walker that is made has the very slice that was passed, so that two are equal as they are.
use mathlib.Core.Path.{◌≡◌, refl, sym, ◌∙◌}
use mathlib.Core.List.{List}
use Prim.Native.Nat.{ℕ}
use seplogic.Ra.Ura.{Ura}
use base.Logic.{SProp}
use prog.Memory.{Memory}
use prog.Routine.{Routine}
use types.Logic.{Logic}
use contract.Monad.{Fun, fact}
use contract.Lifetimes.{Lfts}
use denote.Ref.{Bor}
use denote.Triple.Clauses.{AtExit}
use denote.Triple.Entry.{Args, Res}
use Rattle.base.specs.Promises.{OneResult, OneLeft}
use Rattle.walker.specs.Walking.{stands_at, left_from, after}
use Rattle.walker.specs.declared.Walker.{Walker}
use Rattle.walker.proofs.record_of.Kinds as record-of-kinds
use Rattle.walker.proofs.record_of.Reads as record_of
use Rattle.walker.proofs.records_left.Kinds as records-left-kinds
use Rattle.walker.proofs.records_left.Reads as records-left
use Rattle.walker.proofs.number_after.Kinds as number-after-kinds
use Rattle.walker.proofs.number_after.Reads as number-after
use Rattle.walker.proofs.walked.Kinds as walked-kinds
use Rattle.walker.proofs.walked.Reads as walked
use Rattle.walker.specs.contracts.walk as walk
use Rattle.walker.specs.contracts.record as told
use Rattle.walker.specs.contracts.next as next
use Rattle.walker.specs.contracts.left as left

pub record_of_one : OneResult 1 record-of-kinds.ps record-of-kinds.r record_of.Post
record_of_one κs a r r' x x' p q = p ∙ sym q

pub records-left-one : OneResult 1 records-left-kinds.ps records-left-kinds.r records-left.Post
records-left-one κs a r r' x x' p q = p ∙ sym q

pub number-after-one : OneResult 0 number-after-kinds.ps number-after-kinds.r number-after.Post
number-after-one κs a r r' x x' p q = p ∙ sym q

pub walked_one : OneResult 1 walked-kinds.ps walked-kinds.r walked.Post
walked_one κs a r r' x x' p q = p ∙ sym q

-- what the `ensures` of the functions over a walker say of the arguments and the result
abbrev walk_says : (κs : Lfts 1) → Args walk.signature κs → Res walk.signature κs → AtExit walk.ended κs → Type 0
walk_says κs a r x = (r.sheet ≡ a.0) × (r.number ≡ 0)

abbrev record_says : (κs : Lfts 1) → Args told.signature κs → Res told.signature κs → AtExit told.ended κs → Type 0
record_says κs a r x = r ≡ stands_at a.0.sheet.now a.0.number

abbrev next_says : (κs : Lfts 1) → Args next.signature κs → Res next.signature κs → AtExit next.ended κs → Type 0
next_says κs a r x = (r.sheet ≡ a.0.sheet) × (r.number ≡ after a.0.number)

abbrev left_says : (κs : Lfts 1) → Args left.signature κs → Res left.signature κs → AtExit left.ended κs → Type 0
left_says κs a r x = r ≡ left_from a.0.sheet.now a.0.number

module _ {M : Type 1} {𝓤 : Ura M} (𝓛 : Logic 𝓤) (mem : Memory → SProp 𝓤) (runs : Routine → Fun 𝓤) where
  pub walk_says_lem : (κs : Lfts 1) (a : Args walk.signature κs) (r : Res walk.signature κs) (x : AtExit walk.ended κs) → (walk.clauses 𝓛 mem runs κs a).ensures tt r x ≡ fact 𝓤 (walk_says κs a r x)
  walk_says_lem κs a r x = refl

  pub record_says_lem : (κs : Lfts 1) (a : Args told.signature κs) (r : Res told.signature κs) (x : AtExit told.ended κs) → (told.clauses 𝓛 mem runs κs a).ensures tt r x ≡ fact 𝓤 (record_says κs a r x)
  record_says_lem κs a r x = refl

  pub next-says : (κs : Lfts 1) (a : Args next.signature κs) (r : Res next.signature κs) (x : AtExit next.ended κs) → (next.clauses 𝓛 mem runs κs a).ensures tt r x ≡ fact 𝓤 (next_says κs a r x)
  next-says κs a r x = refl

  pub left-says : (κs : Lfts 1) (a : Args left.signature κs) (r : Res left.signature κs) (x : AtExit left.ended κs) → (left.clauses 𝓛 mem runs κs a).ensures tt r x ≡ fact 𝓤 (left_says κs a r x)
  left-says κs a r x = refl

-- a walker is its slice and its number
same : (w : Walker) (s : Bor (List ℕ)) (i : ℕ) → (w.sheet ≡ s) × (w.number ≡ i) → w ≡ record { sheet = s; number = i }
same w s i e = λ j. record { sheet = e.0 j; number = e.1 j }

pub walk_one : OneLeft {A = Unit} walk.ended walk_says (λ κs x. tt)
walk_one κs a r r' x x' p q = (same r a.0 0 p ∙ sym (same r' a.0 0 q), refl)

pub record_one : OneLeft {A = Unit} told.ended record_says (λ κs x. tt)
record_one κs a r r' x x' p q = (p ∙ sym q, refl)

pub next_one : OneLeft {A = Unit} next.ended next_says (λ κs x. tt)
next_one κs a r r' x x' p q = (same r a.0.sheet (after a.0.number) p ∙ sym (same r' a.0.sheet (after a.0.number) q), refl)

pub left_one : OneLeft {A = Unit} left.ended left_says (λ κs x. tt)
left_one κs a r r' x x' p q = (p ∙ sym q, refl)

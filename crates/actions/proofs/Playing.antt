-- An order of actions is one of three lists: an entry is an action's three numbers, and its lists have one length.
use mathlib.Core.Path.{◌≡◌, refl, sym, ◌∙◌, ap}
use mathlib.Core.Bool.{true, ◌&&◌}
use mathlib.Core.List.{List}
use Prim.Native.Nat.{ℕ, ◌<◌, ◌≤◌}
use borrow.Author.Tests.{eq-eqb}
use lib.Dec.{eqb}
use lib.ListN.{length, length-map, get_or, get_or-map}
use Rattle.std.specs.List.{filter}
use Rattle.nets.specs.Orders.{drains_asked}
use Rattle.orders.specs.Orders.{entry_of, order_answer}
use Rattle.orders.proofs.Turns.{drains-counted, asked-short, asked-done}
use Rattle.actions.specs.declared.Action.{Action}
use Rattle.actions.specs.Actions.{none, kinds_of, indexes_of, values_of, entries_of}

module _ (actions : List Action) where
  pub entry_is : (t : ℕ) → entry_of (get_or actions t none).kind (get_or actions t none).index (get_or actions t none).value ≡ entries_of actions t
  entry_is t =
      λ i.
      entry_of (sym (get_or-map (λ a. a.kind) actions t none) i) (sym (get_or-map (λ a. a.index) actions t none) i) (sym (get_or-map (λ a. a.value) actions t none) i)

  same-long : eqb (length (kinds_of actions)) (length (indexes_of actions)) && eqb (length (kinds_of actions)) (length (values_of actions)) ≡ true
  same-long =
      rw (length-map actions (λ a. a.kind), length-map actions (λ a. a.index), length-map actions (λ a. a.value), eq-eqb (length actions) (length actions) refl)

  -- the drains that are counted are those that the order asks for
  module _ (places d : ℕ) (e : d ≡ length (filter (λ a. eqb a.kind 1) actions)) where
    counted : d ≡ drains_asked (entries_of actions) (length (kinds_of actions))
    counted =
        e ∙ drains-counted (λ a. a.kind) none actions (entries_of actions) (λ t. get_or-map (λ a. a.kind) actions t none)
        ∙ ap (drains_asked (entries_of actions)) (sym (length-map actions (λ a. a.kind)))

    pub answer-short : places < d → 16 ≡ order_answer (kinds_of actions) (indexes_of actions) (values_of actions) places
    answer-short l = asked-short (kinds_of actions) (indexes_of actions) (values_of actions) places d same-long counted l

    pub answer-done : d ≤ places → 0 ≡ order_answer (kinds_of actions) (indexes_of actions) (values_of actions) places
    answer-done l = asked-done (kinds_of actions) (indexes_of actions) (values_of actions) places d same-long counted l

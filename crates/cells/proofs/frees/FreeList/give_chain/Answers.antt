use Rattle.std.proofs.Common.{◌≡◌, ℕ, ◌<◌, List, map, length, get_or, Some, None, Option, refl, sym, ◌∙◌, subst, arith}
use Rattle.std.proofs.lemmas.List.{length-map}
use Rattle.std.proofs.lemmas.List.{get_or-map}
use Rattle.cells.specs.declared.frees.FreeList.{FreeList}
use Rattle.cells.proofs.Giving.{Giving, giving_start, giving_within, giving_more, giving_done}
use Rattle.cells.proofs.frees.FreeList.give_chain.Goals as goal

within : {X : Type 0} (f : X → Option ℕ) (was : List (Option ℕ)) (head : Option ℕ) (list₀ : FreeList) (xs : List X) (todo : Option ℕ) (list : FreeList) → Giving was head list₀ (map f xs) todo list
    → (i : ℕ) → todo ≡ Some i → (i < length xs) × (list.count < length xs)
within f was head list₀ xs todo list g i e =
    let w = giving_within was head list₀ (map f xs) todo list i e g in
    (omega (arith, w.0, length-map xs f), omega (arith, w.1, length-map xs f))

pub loop-todo-init : goal.loop-todo-init
loop-todo-init g c =
    let linkof = g.C.Linked.linkof in
    let start = giving_start (map linkof c.args.cells.now) c.args.first c.args.self.now c.requires.held in
    record { giving = start; within = within linkof _ _ _ c.args.cells.now _ _ start; loads = refl }

pub loop-todo-preserved : goal.loop-todo-preserved
loop-todo-preserved g c =
    let linkof = g.C.Linked.linkof in
    let was = map linkof c.args.cells.now in
    let l = c.loop-todo in
    let at = c.in-Some.at in
    let links = map linkof l.cells in
    let read : c.link-todo.result ≡ get_or links at None = c.link-todo.ensures ∙ sym (get_or-map linkof l.cells at c.index-cells-at.result None (l.invariant.within at c.in-Some.is).0) in
    let more =
    giving_more was c.args.first c.args.self.now links l.todo l.self at (map linkof c.give.new.cells) c.give.new.self c.in-Some.is c.give.ensures.links c.give.ensures.first c.give.ensures.count l.invariant.giving in
    let giving = subst (λ (h : Option ℕ). Giving was c.args.first c.args.self.now (map linkof c.give.new.cells) h c.give.new.self) (sym read) more in
    record { giving = giving; within = within linkof _ _ _ c.give.new.cells _ _ giving; loads = c.give.ensures.loads ∙ l.invariant.loads }

pub returns-clause-freed : goal.returns-clause-freed
returns-clause-freed g c =
    giving_done (map g.C.Linked.linkof c.args.cells.now) c.args.first c.args.self.now (map g.C.Linked.linkof c.loop-todo.cells) c.loop-todo.todo c.loop-todo.self c.in_default.is c.loop-todo.invariant.giving

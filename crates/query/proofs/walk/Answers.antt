-- Invariant: what was noted of each name, and the pieces that are left, say what the whole query says. Assumes nothing.
use mathlib.Core.Path.{refl}
use Rattle.query.proofs.Laws.{walking_start, given_none, given_next, given_some, given_starts, given_ends, noting_turn}
use Rattle.query.proofs.walk.Goals as goal

pub loop-piece-init : goal.loop-piece-init
loop-piece-init c =
    let n = c.default-at.ensures in
    rw (c.into_iter-piece-iterator.ensures.into_iter_gives) (
      refl,
      walking_start _ _ _ _ _ _ c.default-at.result c.default-place.ensures.1.1.1 (
        (n.0.0, n.0.1.0, n.0.1.1),
        (n.1.0.0, n.1.0.1.0, n.1.0.1.1),
        (n.1.1.0.0, n.1.1.0.1.0, n.1.1.0.1.1),
        (n.1.1.1.0, n.1.1.1.1.0, n.1.1.1.1.1),
      ),
    )

pub slice_bounds-name-count : goal.slice_bounds-name-count
slice_bounds-name-count c = given_starts _ _ _ c.loop-piece.invariant.0 _ c.in-Some.ensures.steps

pub slice_bounds-name-start : goal.slice_bounds-name-start
slice_bounds-name-start c = given_starts _ _ _ c.loop-piece.invariant.0 _ c.in-Some.ensures.steps

pub slice_bounds-name-end : goal.slice_bounds-name-end
slice_bounds-name-end c = given_ends _ _ _ c.loop-piece.invariant.0 _ c.in-Some.ensures.steps

pub loop-piece-preserved : goal.loop-piece-preserved
loop-piece-preserved c =
    let given = c.in-Some.ensures.steps in
    let h = c.loop-piece.invariant.0 in
    let held = c.loop-piece.invariant.1 in
    let turn = noting_turn _ _ _ (given_next _ _ _ h _ given) (given_some _ _ _ h _ given) in (
      rw (given.0) h,
      rw (← given.2.0)
          (record {
            first = turn _ _ held.first _ c.noted.ensures;
            second = turn _ _ held.second _ c.noted-in-loop-piece.ensures;
            third = turn _ _ held.third _ c.noted-in-loop-piece-2.ensures;
            fourth = turn _ _ held.fourth _ c.noted-in-loop-piece-3.ensures;
          }),
    )

pub returns : goal.returns
returns c = given_none _ _ _ c.loop-piece.invariant.0 c.in-None.ensures.steps _ _ _ _ _ c.loop-piece.invariant.1

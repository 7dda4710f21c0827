-- `search_edges` meets its contract: by the mode.
use mathlib.Core.Path.{◌≡◌, refl, sym, ◌∙◌}
use mathlib.Core.Bool.{true, false, true≢false}
use Prim.Native.Nat.{ℕ}
use Rattle.search.specs.declared.walk.Mode.{Mode}
use Rattle.search.specs.declared.walk.Mode.TheVariants.{Plain, Boxed, Counted}
use Rattle.search.specs.Walk.{is_counted, looked_in}
use Rattle.search.proofs.walk.search_edges.Goals as goal

-- The number that a mode gives.
counted : (mode : Mode) (k : ℕ) → is_counted mode ≡ true → k ≡ looked_in mode k
counted Plain k e = absurd (true≢false (sym e))
counted Boxed k e = absurd (true≢false (sym e))
counted Counted k e = refl

uncounted : (mode : Mode) (k : ℕ) → is_counted mode ≡ false → 0 ≡ looked_in mode k
uncounted Plain k e = refl
uncounted Boxed k e = refl
uncounted Counted k e = absurd (true≢false e)

pub returns-then-is_counted : goal.returns-then-is_counted
returns-then-is_counted c =
    let r = c.count_edges.ensures in
    (r.0, r.1 ∙ counted c.args.mode _ (sym c.is_counted.ensures ∙ c.if-is_counted.true))

pub returns : goal.returns
returns c =
    let u = c.uncounted.ensures in (
      u.0 ∙ c.tally_edges.ensures,
      u.1 ∙ uncounted c.args.mode _ (sym c.is_counted.ensures ∙ c.if-is_counted.false),
    )

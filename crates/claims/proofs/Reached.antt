-- A play of n entries and then of m more is one play; and wherever a play stopped, waiting or without room, it had reached that
-- offset with the cells that it leaves. By induction over the entries played.
use Prim.Native.Nat.{ℕ, zero, suc, ◌+◌, ◌-◌, ◌≤◌}
use mathlib.Core.Path.{◌≡◌, refl, ap, sym, ◌∙◌}
use mathlib.Core.Bool.{Bool, true, false, cond}
use mathlib.Core.List.{List}
use mathlib.Core.Option.{Option, none, some}
use native.Mathlib.Omega.{arith}
use lib.Dec.{leb}
use lib.ListN.{length}
use Rattle.lists.specs.Sets.{meets}
use Rattle.model.specs.Objects.{Shape}
use Rattle.model.specs.Entries.{Write, Effect, effect, Log, writes_of, header_objects}
use Rattle.model.specs.Table.{Cell, apply}
use Rattle.model.specs.Play.{Played, going, waits, lacks, cells_in, version_at, outcome, make, finish, act, step, and_then, play}

module _ (sh : Shape) (log : Log) (set : List ℕ) (room : ℕ) where
  abbrev pub go_on : ℕ → List Cell → ℕ → Played
  go_on p cs n = play sh log set room p cs n

  -- ---- a play of n entries and then of m more

  then-going : (x : Played) → and_then x (λ ds. going ds) ≡ x
  then-going (going cs) = refl
  then-going (waits q cs) = refl
  then-going (lacks q cs) = refl

  then-then : (x : Played) (f g : List Cell → Played) → and_then (and_then x f) g ≡ and_then x (λ ds. and_then (f ds) g)
  then-then (going cs) f g = refl
  then-then (waits q cs) f g = refl
  then-then (lacks q cs) f g = refl

  pub play-on : (p : ℕ) (cs : List Cell) (n m : ℕ) → go_on p cs (n + m) ≡ and_then (go_on p cs n) (λ ds. go_on (p + n) ds m)
  unfolding play
  play-on p cs n zero =
      let e : n + zero ≡ n = omega arith in
      ap (go_on p cs) e ∙ sym (then-going (go_on p cs n))
  play-on p cs n (suc m) =
      let e : n + suc m ≡ suc (n + m) = omega arith in
      let f : p + (n + m) ≡ p + n + m = omega arith in
      ap (go_on p cs) e
      ∙ ap (λ (x : Played). and_then x (step sh log set room (p + (n + m)))) (play-on p cs n m)
      ∙ then-then (go_on p cs n) (λ ds. go_on (p + n) ds m) (step sh log set room (p + (n + m)))
      ∙ ap (λ (k : ℕ). and_then (go_on p cs n) (λ ds. and_then (go_on (p + n) ds m) (step sh log set room k))) f

  -- ---- where a play stopped

  -- the offset at which a play of n entries from p stands
  abbrev pub stands_at : ℕ → Played → ℕ
  stands_at e (going cs) = e
  stands_at e (waits q cs) = q
  stands_at e (lacks q cs) = q

  -- a step that stops, stops at its entry with the cells as they were
  abbrev pub Stays : ℕ → List Cell → Played → Type 0
  Stays p cs (going ds) = Unit {0}
  Stays p cs (waits q ds) = (q ≡ p) × (ds ≡ cs)
  Stays p cs (lacks q ds) = (q ≡ p) × (ds ≡ cs)

  make-stays : (p : ℕ) (ws : List Write) (cs : List Cell) → Stays p cs (make set room p ws cs)
  make-stays p ws cs = go (leb (length (apply set (version_at p) ws cs)) room)
    where
      go : (b : Bool) → Stays p cs (cond b (going (apply set (version_at p) ws cs)) (lacks p cs))
      go true = tt
      go false = (refl, refl)

  pub step_stays : (p : ℕ) (cs : List Cell) → Stays p cs (step sh log set room p cs)
  unfolding step
  step_stays p cs = go (meets set (header_objects log p (log.entry p)))
    where
      by : (ws : List Write) (o : Option Bool) → Stays p cs (finish set room p ws cs o)
      by ws none = (refl, refl)
      by ws (some true) = make-stays p ws cs
      by ws (some false) = tt

      on : (e : Effect) → Stays p cs (act sh log set room p cs e)
      on (Effect.writes ws) = make-stays p ws cs
      on (Effect.aside n ws) = tt
      on (Effect.tries n c) = by (writes_of log n p) (outcome sh log set p cs c)
      on Effect.inert = tt

      go : (b : Bool) → Stays p cs (cond b (act sh log set room p cs (effect (log.entry p))) (going cs))
      go true = on (effect (log.entry p))
      go false = tt

  -- a play that stands at an offset reached it with its cells
  pub record Reached (p : ℕ) (cs : List Cell) (n q : ℕ) (ds : List Cell) : Type 0 where
    pub from : p ≤ q
    pub to : q ≤ p + n
    pub by : go_on p cs (q - p) ≡ going ds

  pub play-reached : (p : ℕ) (cs : List Cell) (n : ℕ) → Reached p cs n (stands_at (p + n) (go_on p cs n)) (cells_in (go_on p cs n))
  unfolding play
  play-reached p cs zero =
      let e : p + zero - p ≡ zero = omega arith in
      record { from = omega arith; to = omega arith; by = ap (go_on p cs) e }
  play-reached p cs (suc n) = go (go_on p cs n) refl (play-reached p cs n)
    where
      stopped : (ds : List Cell) → go_on p cs n ≡ going ds → (x : Played) → step sh log set room (p + n) ds ≡ x → Stays (p + n) ds x
          → Reached p cs (suc n) (stands_at (p + suc n) x) (cells_in x)
      stopped ds i (going es) e s =
          let k : p + suc n - p ≡ suc n = omega arith in
          record { from = omega arith; to = omega arith; by = ap (go_on p cs) k ∙ ap (λ (y : Played). and_then y (step sh log set room (p + n))) i ∙ e }
      stopped ds i (waits q es) e (f, g) =
          let k : q - p ≡ n = omega (arith, f) in
          record { from = omega (arith, f); to = omega (arith, f); by = ap (go_on p cs) k ∙ i ∙ ap going (sym g) }
      stopped ds i (lacks q es) e (f, g) =
          let k : q - p ≡ n = omega (arith, f) in
          record { from = omega (arith, f); to = omega (arith, f); by = ap (go_on p cs) k ∙ i ∙ ap going (sym g) }

      go : (y : Played) → go_on p cs n ≡ y → Reached p cs n (stands_at (p + n) y) (cells_in y)
          → Reached p cs (suc n) (stands_at (p + suc n) (and_then y (step sh log set room (p + n)))) (cells_in (and_then y (step sh log set room (p + n))))
      go (going ds) i r = stopped ds i (step sh log set room (p + n) ds) refl (step_stays (p + n) ds)
      go (waits q ds) i r = record { from = r.from; to = omega (arith, r.to); by = r.by }
      go (lacks q ds) i r = record { from = r.from; to = omega (arith, r.to); by = r.by }

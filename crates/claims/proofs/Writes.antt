-- Writes on the cells of a table, as the run makes them on all cells: those of hosted objects alike, the others not at all. And with the objects
-- of the writes themselves as the set, every cell is as the run has it.
use Prim.Native.Nat.{ℕ}
use mathlib.Core.Path.{◌≡◌, refl, ap, sym, ◌∙◌}
use mathlib.Core.Bool.{Bool, true, false, cond, ◌&&◌}
use mathlib.Core.List.{List, [], ◌∷◌}
use mathlib.Core.Option.{some}
use lib.Dec.{eqb}
use Rattle.lists.specs.Tests.{or_l, or_r, clash}
use Rattle.lists.specs.Sets.{mem}
use Rattle.model.specs.Entries.{Write, content_of, written_objects}
use Rattle.model.specs.Table.{Cell, Holds, lookup, store, apply}
use Rattle.model.specs.Run.{written, made_all}
use Rattle.laws.proofs.Ordered.{lookup-store}
use Rattle.claims.proofs.Counts.{other-object}

module _ (set : List ℕ) (v : ℕ) where
  one : Write → List Cell → List Cell
  one w cs = cond (mem w.object set) (store cs w.object w.key (record { version = v; content = content_of w })) cs

  -- cells that are looked up alike before writes are so after them
  made_alike : (ws : List Write) (a b : Holds) (o k : ℕ) → ((o' k' : ℕ) → mem o' set ≡ true → a o' k' ≡ b o' k') → mem o set ≡ true → made_all v ws a o k ≡ made_all v ws b o k
  made_alike [] a b o k e m = e o k m
  made_alike (w ∷ ws) a b o k e m =
      made_alike ws (written v w a) (written v w b) o k (λ o' k' i. ap (cond (eqb w.object o' && eqb w.key k') (some (record { version = v; content = content_of w }))) (e o' k' i)) m

  one-hosted : (w : Write) (cs : List Cell) (o k : ℕ) → mem o set ≡ true → lookup (one w cs) o k ≡ written v w (lookup cs) o k
  unfolding one
  one-hosted w cs o k m = go (mem w.object set) refl
    where
      go : (b : Bool) → mem w.object set ≡ b → lookup (cond b (store cs w.object w.key (record { version = v; content = content_of w })) cs) o k ≡ written v w (lookup cs) o k
      go true e = lookup-store cs w.object w.key (record { version = v; content = content_of w }) o k
      go false e = rw (other-object w.object w.key o k (λ i. clash (mem o set) m (rw i at e)))

  one-other : (w : Write) (cs : List Cell) (o k : ℕ) → mem o set ≡ false → lookup (one w cs) o k ≡ lookup cs o k
  unfolding one
  one-other w cs o k m = go (mem w.object set) refl
    where
      go : (b : Bool) → mem w.object set ≡ b → lookup (cond b (store cs w.object w.key (record { version = v; content = content_of w })) cs) o k ≡ lookup cs o k
      go true e = lookup-store cs w.object w.key (record { version = v; content = content_of w }) o k
          ∙ rw (other-object w.object w.key o k (λ i. clash (mem w.object set) e (rw (← i) at m)))
      go false e = refl

  apply-hosted : (ws : List Write) (cs : List Cell) (o k : ℕ) → mem o set ≡ true → lookup (apply set v ws cs) o k ≡ made_all v ws (lookup cs) o k
  unfolding apply one
  apply-hosted [] cs o k m = refl
  apply-hosted (w ∷ ws) cs o k m =
      apply-hosted ws (one w cs) o k m ∙ made_alike ws (lookup (one w cs)) (written v w (lookup cs)) o k (λ o' k' i. one-hosted w cs o' k' i) m

  apply-other : (ws : List Write) (cs : List Cell) (o k : ℕ) → mem o set ≡ false → lookup (apply set v ws cs) o k ≡ lookup cs o k
  unfolding apply one
  apply-other [] cs o k m = refl
  apply-other (w ∷ ws) cs o k m = apply-other ws (one w cs) o k m ∙ one-other w cs o k m

  pub apply-looked : (ws : List Write) (cs : List Cell) (o k : ℕ) → lookup (apply set v ws cs) o k ≡ cond (mem o set) (made_all v ws (lookup cs) o k) (lookup cs o k)
  apply-looked ws cs o k = go (mem o set) refl
    where
      go : (b : Bool) → mem o set ≡ b → lookup (apply set v ws cs) o k ≡ cond b (made_all v ws (lookup cs) o k) (lookup cs o k)
      go true e = apply-hosted ws cs o k e
      go false e = apply-other ws cs o k e

-- writes of other objects
made_other : (v : ℕ) (ws : List Write) (cells : Holds) (o k : ℕ) → mem o (written_objects ws) ≡ false → made_all v ws cells o k ≡ cells o k
made_other v [] cells o k m = refl
made_other v (w ∷ ws) cells o k m =
    made_other v ws (written v w cells) o k (or_r (eqb w.object o) (mem o (written_objects ws)) m)
    ∙ rw (or_l (eqb w.object o) (mem o (written_objects ws)) m)

-- writes applied to every object that they name
pub apply-all : (v : ℕ) (ws : List Write) (cs : List Cell) (o k : ℕ) → lookup (apply (written_objects ws) v ws cs) o k ≡ made_all v ws (lookup cs) o k
apply-all v ws cs o k = apply-looked (written_objects ws) v ws cs o k ∙ go (mem o (written_objects ws)) refl
  where
    go : (b : Bool) → mem o (written_objects ws) ≡ b → cond b (made_all v ws (lookup cs) o k) (lookup cs o k) ≡ made_all v ws (lookup cs) o k
    go true e = refl
    go false e = sym (made_other v ws (lookup cs) o k e)

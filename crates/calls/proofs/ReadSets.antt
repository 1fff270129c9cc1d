-- Versions in read sets of calls: appends, audit, opening, plays and readings are the model's by their contracts, so what is proved of
-- the model's commits and replicas holds of what they answered and left.
use Prim.Native.Nat.{ℕ, ◌≤◌}
use mathlib.Core.Path.{◌≡◌, refl, ap, sym, ◌∙◌, subst}
use mathlib.Core.List.{List, [], ◌∷◌, ◌++◌}
use mathlib.Core.Option.{Option}
use native.Mathlib.Omega.{arith}
use lib.ListN.{length}
use Rattle.model.specs.Directory.{shape_of}
use Rattle.model.specs.Entries.{Read, Held}
use Rattle.model.specs.Table.{version_in}
use Rattle.model.specs.Answers.{done}
use Rattle.model.specs.Append as model
use Rattle.model.specs.Append.{commits}
use Rattle.model.specs.Histories.{Lent, append_to, after, grown, Carried, shown}
use Rattle.model.specs.Terms.{Pointed}
use Rattle.model.specs.ReadClaims.{FirstAstray, ShownVersion, read_of}
use Rattle.claims.proofs.Handed.{tells-astray-for, astray-none-for, shown-passes-for}
use Rattle.codec.specs.Eight.{in_log}
use Rattle.append.specs.Answers.{tail_in}
use Rattle.answers.specs.Refusals.{checked_in}
use Rattle.calls.specs.Values.{AppendCall, seen, Grows, left_by, Appends, log_after, scratch, Kept, carry}
use Rattle.calls.specs.Claims.{lent_at}
use Rattle.calls.specs.ReadSets.{CallsTellAstray, CallsAstrayNone, Shown, CallsShownPasses}
use Rattle.calls.proofs.Promises.{append-promise, read-promise}
use Rattle.calls.proofs.Histories.{requests, history, left_grown, stood-left}
use Rattle.calls.proofs.Appends.{accepted-so, later-so}
use Rattle.calls.proofs.Behave.{passed, opened-so, plays-so}

-- ---- commits

-- the answer of a commit's call is the model's
answered : (c : AppendCall) (n : ℕ) (items : List ℕ) (first second : ℕ) → (seen c).request ≡ commits n items first second
    → tail_in (seen c).answer ≡ (append_to (shape_of (seen c).dir) (lent_at c) (commits n items first second)).new_tail
answered c n items first second e = ap (λ (x : model.Appended). x.new_tail) (append-promise c) ∙ ap (λ (q : model.Request). (append_to (shape_of (seen c).dir) (lent_at c) q).new_tail) e

pub calls-tell-astray : CallsTellAstray
calls-tell-astray c n items first second i e =
    let m = tells-astray-for (seen c).dir (lent_at c) n items first second i in
    (λ h. m.0 (sym (answered c n items first second e) ∙ h), λ f. answered c n items first second e ∙ m.1 f)

pub calls-astray-none : CallsAstrayNone
calls-astray-none c n items first second t e d later g x m =
    subst (λ (l : Lent). Pointed (in_log l) x) (ap (λ (q : model.Request). grown (shape_of (seen c).dir) (after (shape_of (seen c).dir) (lent_at c) q) (requests later)) (sym e) ∙ later-so (seen c).dir (lent_at c) c t refl refl d later g)
    (astray-none-for (seen c).dir (lent_at c) n items first second (ap (λ (q : model.Request). Rattle.model.specs.Histories.is_refused (append_to (shape_of (seen c).dir) (lent_at c) q).new_tail) (sym e) ∙ accepted-so (seen c).dir (lent_at c) c t refl refl d) (requests later) x m)

-- ---- what a replica shows

-- lists that fall apart at the same place have the same element there
same_place : (xs ys : List Read) (x y : Read) (us vs : List Read) → xs ++ x ∷ us ≡ ys ++ y ∷ vs → length xs ≡ length ys → x ≡ y
same_place [] [] x y us vs e l = ap (first x) e
  where
    first : Read → List Read → Read
    first d [] = d
    first d (z ∷ zs) = z
same_place [] (b ∷ ys) x y us vs e l = absurd (omega (arith, l))
same_place (a ∷ xs) [] x y us vs e l = absurd (omega (arith, l))
same_place (a ∷ xs) (b ∷ ys) x y us vs e l = same_place xs ys x y us vs (ap rest e) (omega (arith, l))
  where
    rest : List Read → List Read
    rest [] = []
    rest (z ∷ zs) = zs

module _ (a : Appends) (k : Kept) (o key : ℕ) (held : Option Held) (s : ShownVersion (shape_of a.dir) (history a) (carry k) o key held) where
  pointed-so : (m : ℕ) → version_in held ≤ (log_after a m).tail → (later : List AppendCall) → Grows a.dir (log_after a m).bytes (log_after a m).tail later
      → Pointed (in_log (left_by (log_after a m).bytes (log_after a m).tail later)) (read_of o key held)
  pointed-so m low later g =
      subst (λ (l : Lent). Pointed (in_log l) (read_of o key held))
      (ap (λ (l : Lent). grown (shape_of a.dir) l (requests later)) (stood-left a m) ∙ left_grown a.dir (log_after a m).bytes (log_after a m).tail later g)
      (s.pointed m (subst (λ (l : Lent). version_in held ≤ l.tail) (sym (stood-left a m)) low) (requests later))

  shown-so : Shown a k o key held
  shown-so = record {
    past = s.past;
    pointed = pointed-so;
    taken = λ m low later g c n items first second before rest of given e reads told.
        let f : FirstAstray (shape_of (seen c).dir) (lent_at c) n items first second (length before) = (calls-tell-astray c n items first second (length before) e).0 told in
        let x : f.read ≡ read_of o key held = same_place f.before before f.read (read_of o key held) f.rest rest (sym f.reads ∙ reads) f.place in
        f.astray (subst (Pointed (in_log (lent_at c))) (sym x) (subst (λ (l : Lent). Pointed (in_log l) (read_of o key held)) (sym given) (pointed-so m low later g)));
  }

pub calls-shown-passes : CallsShownPasses
calls-shown-passes a audit d k opens last ps o key r held e =
    let w = opened-so a k opens in
    let p = plays-so a k last ps in
    let read = subst (λ (x : Carried). shown (shape_of a.dir) x o key ≡ done held) (sym p.1) (sym (read-promise a.dir last o key r) ∙ e) in
    shown-so a last o key held
    (subst (λ (x : Carried). ShownVersion (shape_of a.dir) (history a) x o key held) p.1
    (shown-passes-for a.dir (history a) (scratch audit) (passed a audit (ap checked_in d)) w.0 (carry k) w.1 p.0 o key held read))

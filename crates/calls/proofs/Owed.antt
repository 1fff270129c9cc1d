-- Decisions owed of calls: owed calls, plays and decisions are the model's by their contracts, so what is proved of the definitions holds of them.
use Prim.Native.Nat.{ℕ, ◌<◌}
use mathlib.Core.Path.{◌≡◌, refl, ap, sym, ◌∙◌, subst}
use mathlib.Core.List.{List}
use Rattle.model.specs.Directory.{shape_of}
use Rattle.model.specs.Append as model
use Rattle.model.specs.Append.{decides}
use Rattle.model.specs.Replica.{Left}
use Rattle.model.specs.Histories.{Lent, is_refused, append_to, after, grown, Accepted}
use Rattle.model.specs.OwedClaims.{Owes, Answers, Paid}
use Rattle.claims.proofs.Handed.{none-waits-for, owes-exactly-for, pays-for}
use Rattle.codec.specs.Eight.{in_log}
use Rattle.entries.specs.Answers.{owed_in}
use Rattle.records.specs.Record.{replica_in}
use Rattle.calls.specs.Values.{AppendCall, seen, Grows, left_by, stop_of}
use Rattle.calls.specs.Claims.{lent_at}
use Rattle.calls.specs.Owed.{CallsNoneWait, CallsOweExactly, left_at, CallsPay}
use Rattle.calls.proofs.Promises.{owed-promise, play-promise}
use Rattle.calls.proofs.Histories.{requests}
use Rattle.calls.proofs.Appends.{accepted-so, after-so, later-so}
use Rattle.std.specs.Prelude.{Ok}

pub calls-none-wait : CallsNoneWait
calls-none-wait d log sets c e k m p h =
    none-waits-for d (in_log log) sets (sym (owed-promise d log sets c) ∙ ap owed_in e) (replica_in k.replica) k.table (stop_of p) m
    (sym (ap (λ (x : Left). x.answer) (play-promise d log k p)) ∙ h)

pub calls-owe-exactly : CallsOweExactly
calls-owe-exactly d log sets c = subst (Answers (shape_of d) log sets) (sym (owed-promise d log sets c)) (owes-exactly-for d log sets)

-- ---- a decision pays

module _ (c : AppendCall) (o v t : ℕ) (e : (seen c).request ≡ decides o v) (d : (seen c).answer ≡ Ok t) (sets : List ℕ) where
  taken : Accepted (shape_of (seen c).dir) (lent_at c) (decides o v)
  taken = ap (λ (q : model.Request). is_refused (append_to (shape_of (seen c).dir) (lent_at c) q).new_tail) (sym e) ∙ accepted-so (seen c).dir (lent_at c) c t refl refl d

  pays : Paid (shape_of (seen c).dir) (lent_at c) o v sets
  pays = pays-for (seen c).dir (lent_at c) o v taken sets

  left_so : after (shape_of (seen c).dir) (lent_at c) (decides o v) ≡ left_at c t
  left_so = ap (after (shape_of (seen c).dir) (lent_at c)) (sym e) ∙ after-so (seen c).dir (lent_at c) c t refl refl d

  grown-so : (later : List AppendCall) → Grows (seen c).dir (seen c).left t later
      → grown (shape_of (seen c).dir) (after (shape_of (seen c).dir) (lent_at c) (decides o v)) (requests later) ≡ left_by (seen c).left t later
  grown-so later g =
      ap (λ (q : model.Request). grown (shape_of (seen c).dir) (after (shape_of (seen c).dir) (lent_at c) q) (requests later)) (sym e)
      ∙ later-so (seen c).dir (lent_at c) c t refl refl d later g

  paid-so : (later : List AppendCall) → Grows (seen c).dir (seen c).left t later → Owes (shape_of (seen c).dir) (in_log (left_by (seen c).left t later)) sets o → ⊥
  paid-so later g w = pays.paid (requests later) (subst (λ (l : Lent). Owes (shape_of (seen c).dir) (in_log l) sets o) (sym (grown-so later g)) w)

  others-so : (q : ℕ) → q < t → Owes (shape_of (seen c).dir) (in_log (left_at c t)) sets q → (q < (seen c).tail) × Owes (shape_of (seen c).dir) (in_log (lent_at c)) sets q
  others-so q l w =
      pays.others q (subst (λ (x : Lent). q < x.tail) (sym left_so) l) (subst (λ (x : Lent). Owes (shape_of (seen c).dir) (in_log x) sets q) (sym left_so) w)

pub calls-pay : CallsPay
calls-pay c o v t e d sets = record {
  paid = paid-so c o v t e d sets;
  unanswered = λ later g w h. paid-so c o v t e d sets later g (((calls-owe-exactly (seen c).dir (left_by (seen c).left t later) sets w).lowest o).0 h).3;
  others = others-so c o v t e d sets;
}

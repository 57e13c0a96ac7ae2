-- What a judge tells from sets is what issue seeks of the encounters that meet them. Assumes nothing.
use Rattle.std.proofs.Common.{◌≡◌, subst}
use Rattle.kinds.specs.Meaning.{Meaning}
use Rattle.kinds.specs.declared.Kind.{Ghosts}
use Rattle.results.specs.Results.{Results, Equal}
use Rattle.lists.specs.Held.{seen}
use Rattle.lists.specs.declared.view.View.{View}
use Rattle.judging.specs.declared.judge.Judge.{Judge}
use Rattle.judging.specs.Judged.{Unlike, open_by, gap_by, clash_by, asymmetry_by, fault_by}
use Rattle.judging.specs.Sought.{open_in, gap_in, clash_in, asymmetry_in, fault_in}
use Rattle.judging.proofs.Judging.{open_tells, gap_tells, clash_tells, asymmetry_tells, fault_tells}
use Rattle.seeking.specs.Seeks.{TellsOf}

module _ {K R V C : Type 0} {k : Ghosts K V C} (m : Meaning V C) (r : Results R) (equal : Equal r) (j : Judge K R V C k) (v : View K R V C k) (is : j.view.now ≡ v) (un : Unlike r j) where
  pub open-told : TellsOf m v (open_by r j) (open_in m r (seen v))
  open-told = subst (λ v. TellsOf m v (open_by r j) (open_in m r (seen v))) is (λ s e h. open_tells m r equal j un s e h)

  pub gap-told : TellsOf m v (gap_by r j) (gap_in m r (seen v))
  gap-told = subst (λ v. TellsOf m v (gap_by r j) (gap_in m r (seen v))) is (λ s e h. gap_tells m r equal j un s e h)

  pub clash-told : TellsOf m v (clash_by r j) (clash_in m r (seen v))
  clash-told = subst (λ v. TellsOf m v (clash_by r j) (clash_in m r (seen v))) is (λ s e h. clash_tells m r equal j un s e h)

  pub asymmetry-told : TellsOf m v (asymmetry_by r j) (asymmetry_in m r (seen v))
  asymmetry-told = subst (λ v. TellsOf m v (asymmetry_by r j) (asymmetry_in m r (seen v))) is (λ s e h. asymmetry_tells m r equal j un s e h)

  pub fault-told : TellsOf m v (fault_by r j) (fault_in m r (seen v))
  fault-told = subst (λ v. TellsOf m v (fault_by r j) (fault_in m r (seen v))) is (λ s e h. fault_tells m r equal j un s e h)

use Rattle.std.proofs.Common.{rules, ◌∙◌, Some, sym, subst, refl}
use Rattle.std.proofs.lemmas.Bool.{false≢true}
use Rattle.site_traits.specs.declared.door.NextAnswer.TheVariants as answer
use Rattle.site_traits.specs.declared.mem_door.Planned.{Planned}
use Rattle.site_traits.specs.DoorPlans.{Does}
use Rattle.site_traits.proofs.DoorLemmas.{runs_next}
use Rattle.site_traits.proofs.mem_door.MemDoorDoor.next.Goals as goal

pub returns-in-Some-Nobody-clause-runs : goal.returns-in-Some-Nobody-clause-runs
returns-in-Some-Nobody-clause-runs c =
    let P : Planned → Type 0 = λ v. Does (Some v) answer.Nobody c.args.self.now.conn in
    runs_next answer.Nobody c.args.self.now _ c.in-Some-Nobody.field-0
    (λ spent. false≢true (sym c.if-is_spent.false ∙ c.is_spent.ensures.spent.1 spent)) c.in-Some-Nobody.ensures.items
    (subst P (sym c.in-Some-Nobody.field-0-is) refl) c.is_spent.ensures.counted

pub returns-in-Some-Fails-clause-runs : goal.returns-in-Some-Fails-clause-runs
returns-in-Some-Fails-clause-runs c =
    let P : Planned → Type 0 = λ v. Does (Some v) answer.Failed c.args.self.now.conn in
    runs_next answer.Failed c.args.self.now _ c.in-Some-Fails.field-0
    (λ spent. false≢true (sym c.if-is_spent.false ∙ c.is_spent.ensures.spent.1 spent)) c.in-Some-Fails.ensures.items
    (subst P (sym c.in-Some-Fails.field-0-is) refl) c.is_spent.ensures.counted

pub returns-in-Some-Conn-clause-runs : goal.returns-in-Some-Conn-clause-runs
returns-in-Some-Conn-clause-runs c =
    let P : Planned → Type 0 = λ v. Does (Some v) (answer.Came c.in-Some-Conn.role) c.replace-before.new.dest in
    runs_next (answer.Came c.in-Some-Conn.role) c.args.self.now _ c.in-Some-Conn.field-0
    (λ spent. false≢true (sym c.if-is_spent.false ∙ c.is_spent.ensures.spent.1 spent)) c.in-Some-Conn.ensures.items
    (subst P (sym c.in-Some-Conn.field-0-is) (refl, search rules)) c.is_spent.ensures.counted

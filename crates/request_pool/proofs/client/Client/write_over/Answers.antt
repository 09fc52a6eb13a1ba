use Rattle.std.proofs.Common.{◌≡◌, ◌∙◌, List, ℕ, ◌++◌, Option, Some, length, take, drop, subst, sym, ap, refl}
use Rattle.request_pool.specs.declared.fronts.Front.TheVariants as front
use Rattle.request_pool.specs.declared.fronts.Place.{Place}
use Rattle.request_pool.specs.Clients.{ClientState, IsOpened, opened}
use Rattle.request_pool.specs.Fronts.{IsWholeAt}
use Rattle.request_pool.proofs.FrontLaws.{opened_as}
use Rattle.request_pool.proofs.client.Client.write_over.Goals as goal

pub invariant_of-self : goal.invariant_of-self
invariant_of-self c = (
  c.new.ensures c.write_over.new.self,
  subst (λ (x : Place). IsWholeAt c.write_over.new.self x) (sym c.open_place.ensures)
      (opened_as c.args.place _ c.args.self.now
      (record {
        role = c.self.inside.role;
        held = c.write_over.new.self;
        front = Some (front.Whole (opened c.args.place));
        out = c.self.inside.out;
        requests = c.self.inside.requests;
        closing = c.self.inside.closing;
      }) c.args.head.now
      c.self.view_is c.requires.front c.self.invariant.1 c.requires.over c.write_over.ensures refl refl refl refl refl).whole,
)

pub returns : goal.returns
returns c = opened_as c.args.place _ c.args.self.now _ c.args.head.now c.self.view_is c.requires.front c.self.invariant.1 c.requires.over
    c.write_over.ensures (ap (λ x. Some (front.Whole x)) c.open_place.ensures) refl refl refl refl

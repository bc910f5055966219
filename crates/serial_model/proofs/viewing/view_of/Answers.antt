use Rattle.std.proofs.Common.{◌∙◌, ap, refl}
use Rattle.method_eval.specs.Answers.{stored_at}
use Rattle.serial_model.proofs.Viewed.{whole_again, of_epoch, stored_order}
use Rattle.serial_model.proofs.viewing.view_of.Goals as goal

pub map_of-requires : goal.map_of-requires
map_of-requires c =
    stored_order c.args.store.now.epoch c.args.store.now.objects.pairs c.in_ok-stored.stored (c.in_ok-stored.ensures ∙ ap (stored_at c.args.store.now.epoch) c.in_ok-pairs.ensures) c.requires

pub returns-clause-store : goal.returns-clause-store
returns-clause-store c =
    whole_again c.args.store.now (record { objects = c.in_ok-map_of.field-0; names = c.new.result; epoch = c.args.store.now.epoch }) (c.in_ok-map_of.ensures ∙ c.in_ok-stored.ensures ∙ ap (stored_at c.args.store.now.epoch) c.in_ok-pairs.ensures) refl

pub returns-clause-versions : goal.returns-clause-versions
returns-clause-versions c =
    of_epoch (record { objects = c.in_ok-map_of.field-0; names = c.new.result; epoch = c.args.store.now.epoch }) c.args.store.now.epoch c.args.store.now.objects.pairs (c.in_ok-map_of.ensures ∙ c.in_ok-stored.ensures ∙ ap (stored_at c.args.store.now.epoch) c.in_ok-pairs.ensures) refl

use Rattle.std.proofs.Common.{Some, refl, sym, ap, subst, ◌∙◌, arith}
use Rattle.std.proofs.lemmas.List.Elements.{All-set}
use Rattle.group_view.specs.Books.{book_of}
use Rattle.group_view.specs.Lists.{IsOpenAt}
use Rattle.group_book.specs.Turns.{after_close}
use Rattle.group_directory.proofs.Books.{book_is}
use Rattle.group_directory.proofs.Held.{Fits}
use Rattle.group_directory.proofs.Closed.{none_closed, none_lowest, open_within, closed_book, closed_lowest, closed_open, closed_packed, listed-set}
use Rattle.group_directory.proofs.events.close.Goals as goal

pub returns-in-None-clause-book : goal.returns-in-None-clause-book
returns-in-None-clause-book c = book_is (book_of c.args.list.now) (after_close (book_of c.args.list.now)) (none_closed c.args.list.now.groups.items (subst (IsOpenAt c.args.list.now.groups.items) c.in-None.is c.requires.held.opened)) refl refl refl

pub returns-in-None-clause-closed : goal.returns-in-None-clause-closed
returns-in-None-clause-closed c = sym (none_lowest c.args.list.now.groups.items (subst (IsOpenAt c.args.list.now.groups.items) c.in-None.is c.requires.held.opened))

pub at_mut-group-requires : goal.at_mut-group-requires
at_mut-group-requires c = let within = open_within c.args.list.now.groups.items c.in-Some.place (subst (IsOpenAt c.args.list.now.groups.items) c.in-Some.is c.requires.held.opened) in omega (arith, within)

pub returns-clause-book : goal.returns-clause-book
returns-clause-book c =
    let here = subst (IsOpenAt c.args.list.now.groups.items) c.in-Some.is c.requires.held.opened in
    book_is _ (after_close (book_of c.args.list.now)) (closed_book c.args.list.now.groups.items c.in-Some.place c.at_mut-group.result.now c.close_group.new.group here c.at_mut-group.ensures.value c.close_group.ensures.id c.close_group.ensures.content) refl refl refl

pub returns-clause-closed : goal.returns-clause-closed
returns-clause-closed c =
    let here = subst (IsOpenAt c.args.list.now.groups.items) c.in-Some.is c.requires.held.opened in
    ap Some c.close_group.ensures.id
    ∙ sym (closed_lowest c.args.list.now.groups.items c.in-Some.place c.at_mut-group.result.now here c.at_mut-group.ensures.value)

pub returns-clause-held : goal.returns-clause-held
returns-clause-held c =
    let here = subst (IsOpenAt c.args.list.now.groups.items) c.in-Some.is c.requires.held.opened in
    record {
      fitting = All-set Fits c.args.list.now.groups.items c.in-Some.place c.close_group.new.group (c.close_group.ensures.fitting (subst Fits (sym c.at_mut-group.ensures.value) (c.requires.held.fitting c.in-Some.place c.at_mut-group.result.now (open_within c.args.list.now.groups.items c.in-Some.place here)))) c.requires.held.fitting;
      opened = closed_open c.args.list.now.groups.items c.in-Some.place c.close_group.new.group here c.close_group.ensures.not_open;
      lent = c.requires.held.lent;
    }

pub returns-clause-listed : goal.returns-clause-listed
returns-clause-listed c = listed-set c.args.list.now.groups.items c.in-Some.place c.at_mut-group.result.now c.close_group.new.group c.at_mut-group.ensures.value c.close_group.ensures.id c.close_group.ensures.shown c.close_group.ensures.rows

pub returns-clause-packed : goal.returns-clause-packed
returns-clause-packed c =
    let here = subst (IsOpenAt c.args.list.now.groups.items) c.in-Some.is c.requires.held.opened in
    closed_packed c.args.list.now.groups.items c.in-Some.place c.at_mut-group.result.now c.close_group.new.group here c.at_mut-group.ensures.value c.close_group.ensures.content

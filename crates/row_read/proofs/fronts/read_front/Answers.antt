use Rattle.std.proofs.Common.{refl}
use Rattle.row_read.proofs.OneFront.{front_told}
use Rattle.row_read.proofs.fronts.read_front.Goals as goal

pub returns-in-Row : goal.returns-in-Row
returns-in-Row c terms d fit is =
    let told = front_told c.args.names.now c.args.procedure c.args.front.now c.in-Some.relation _ terms d fit is c.in-Some.ensures c.in-Row.is in
    (record { known = told.0; rising = told.1 }, told.2)

pub returns-in-UnknownName : goal.returns-in-UnknownName
returns-in-UnknownName c terms d fit is =
    (refl, front_told c.args.names.now c.args.procedure c.args.front.now c.in-Some.relation _ terms d fit is c.in-Some.ensures c.in-UnknownName.is)

pub returns-in-Order : goal.returns-in-Order
returns-in-Order c terms d fit is =
    let told = front_told c.args.names.now c.args.procedure c.args.front.now c.in-Some.relation _ terms d fit is c.in-Some.ensures c.in-Order.is in
    (refl, told.0, told.1)

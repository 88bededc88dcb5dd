mod Agreeing
mod Beginning
mod Changing
mod Giving
mod Items
mod Numbered
mod Rounds
mod Trees

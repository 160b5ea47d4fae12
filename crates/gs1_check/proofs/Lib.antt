mod Digits
mod Places
mod ReadTexts
mod SectionStrings
mod ShownBodies
mod TableFacts
mod TextBodies

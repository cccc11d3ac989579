mod OneChild
